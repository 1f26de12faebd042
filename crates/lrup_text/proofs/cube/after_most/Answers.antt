use Rattle.std.proofs.Common.{true, sym, subst, ◌∙◌, arith}
use Rattle.std.proofs.lemmas.Bool.{true≢false, eq-eqb}
use Rattle.lrup_text.specs.internal.Rests.{BeforeLiteral}
use Rattle.lrup_text.proofs.CubeFaults.{misspelled, too_long}
use Rattle.lrup_text.proofs.Steps.{Exceeds, body_blocks, body_exceeds_digit, body_exceeds_minus}
use Rattle.lrup_text.proofs.cube.after_most.Goals as goal
use Rattle.lrup_text.proofs.cube.after_most.Goals.{then-byte-eq45, else-byte-eq45}

pub returns-then-begins_number : goal.returns-then-begins_number
returns-then-begins_number c read after occurs =
    too_long read (BeforeLiteral true 65535) c.args.byte after occurs (omega arith)
    (elim c.if-byte-eq45.branch [
      | then-byte-eq45 w ↦ subst (Exceeds (BeforeLiteral true 65535)) (sym w.if-byte-eq45.true) (body_exceeds_minus true)
      | else-byte-eq45 w ↦
          let digit = w.begins_number.ensures.0 (sym w.value-is ∙ c.if-begins_number.true) in
          body_exceeds_digit true c.args.byte digit.0 digit.1
    ])

pub returns-else-begins_number : goal.returns-else-begins_number
returns-else-begins_number c read after occurs =
    elim c.if-byte-eq45.branch [
      | then-byte-eq45 w ↦ absurd (true≢false (sym (w.value-is ∙ eq-eqb c.args.byte 45 w.if-byte-eq45.true) ∙ c.if-begins_number.false))
      | else-byte-eq45 w ↦ misspelled read (BeforeLiteral true 65535) c.args.byte after occurs (omega arith)
          (λ signed. body_blocks signed true 65535 c.args.byte c.requires w.if-byte-eq45.false
          (λ low high. true≢false (sym (w.value-is ∙ w.begins_number.ensures.1 (low, high)) ∙ c.if-begins_number.false)) (λ none adds. cc))
    ]
