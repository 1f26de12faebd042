use Rattle.std.proofs.Common.{ℕ, true, List, sym, subst}
use Rattle.std.proofs.lemmas.List.{nil_from_length}
use Rattle.std.proofs.lemmas.Result.{IfErr-weaker}
use Rattle.lrup_text.specs.internal.CubeReading.{IsRestFault}
use Rattle.lrup_text.specs.internal.Rests.{AfterMinus, InLiteral}
use Rattle.lrup_text.proofs.CubeFaults.{misspelled, rest_fault, too_short}
use Rattle.lrup_text.proofs.Steps.{minus_blocks, minus_digit}
use Rattle.lrup_text.proofs.cube.read_number.Goals as goal

pub returns-in_default-clause-fault : goal.returns-in_default-clause-fault
returns-in_default-clause-fault c read n few occurs =
    rw (nil_from_length c.args.text.now c.in_default.ensures.cases) (too_short read (AfterMinus true n) occurs few)

pub returns-then-not-begins_number-clause-fault : goal.returns-then-not-begins_number-clause-fault
returns-then-not-begins_number-clause-fault c read n few occurs =
    rw c.in-Some.ensures.cases.0 (misspelled read (AfterMinus true n) c.in-Some.field-0-0.now c.in-Some.after.now occurs few
    (λ signed. minus_blocks signed true n c.in-Some.field-0-0.now (λ low high. let wrong = c.if-not-begins_number.ensures.1 (
      low,
      high,
    ) in cc)))

pub returns-clause-fault : goal.returns-clause-fault
returns-clause-fault c =
    let digit = c.begins_number.ensures.0 c.if-not-begins_number.false in
    let first = c.in-Some.field-0-0.now in
    IfErr-weaker c.read_digits.result _ _
    (λ fault h. subst (λ (t : List ℕ). IsRestFault (AfterMinus true) t fault) (sym c.in-Some.ensures.cases.0)
    (rest_fault (AfterMinus true) (InLiteral true 1) first c.in-Some.after.now fault (λ n. minus_digit true n first digit.0 digit.1) h))
    c.read_digits.ensures.fault
