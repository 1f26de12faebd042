use Rattle.std.proofs.Common.{List, ℕ, get_or, arith, ◌≡◌, ◌≤◌, ◌++◌, ◌∙◌, ap, take, w64, eq-eqb, eqb}
use Rattle.std.specs.Prelude.{unsigned_abs}
use Rattle.std.specs.Fmt.{signed_decimal}
use Rattle.std.proofs.lemmas.Bool.{ne_eqb}
use Rattle.std.proofs.lemmas.Int.{to_z-of_z, ints}
use Rattle.lrup_text.proofs.WholeLines.{literal_read, sign_text, sign_there, sign_absent}
use Rattle.lrup_text.proofs.kernel.I64Word.read.Goals as goal
use Rattle.lrup_text.proofs.kernel.I64Word.read.Goals.{then-negative, else-negative}

pub returns : goal.returns
returns c =
    let text : List ℕ = c.args.bytes.now in
    let start = c.args.start in
    let digits = c.if-negative.digits in
    let negative = eqb (get_or text start 0) 45 in
    let sign : (start ≤ digits) × (take digits text ≡ take start text ++ sign_text negative) =
    elim c.if-negative.branch [
      | then-negative w ↦ sign_there text start digits negative c.requires.inside
          (eq-eqb (get_or text start 0) 45 w.if-negative.true) w.if-negative.true w.digits-is
      | else-negative w ↦ sign_absent text start digits negative (ne_eqb (get_or text start 0) 45 w.if-negative.false) w.digits-is
    ] in
    let same = to_z-of_z w64 c.literal_of.result (search (arith, ints, c.literal_of.type_inv)) in
    literal_read text start negative digits c.in_ok-magnitude.magnitude c.in_ok-magnitude.end _ sign.0 sign.1 c.in_ok-magnitude.ensures
    (ap signed_decimal same ∙ c.literal_of.ensures.text) (ap unsigned_abs same ∙ c.literal_of.ensures.magnitude)
