use Rattle.std.proofs.Common.{◌≡◌, ℕ, ◌∷◌, codes, refl, sym, ap, ◌∙◌, inl, inr}
use Rattle.std.proofs.lemmas.Slice.Eq.{bytes_eq-Decides}
use Rattle.std.proofs.lemmas.Bool.{both_ways}
use Rattle.dimacs.specs.Numerals.{value}
use Rattle.model_check.proofs.NumberLemmas.{zero_number, negative_number, negative_none, plain_number, plain_none, BeginsPlain}
use Rattle.model_check.proofs.numbers.number.Goals as goal
use Rattle.model_check.proofs.numbers.number.Goals.{in-Some+else-first-eq45, in_default}

pub returns-then-eq : goal.returns-then-eq
returns-then-eq c =
    let token = c.args.token.now in
    let e : token ≡ codes "0" = (bytes_eq-Decides token c.as_slice.result.now).0 (sym c.if-eq.ensures) ∙ c.as_slice.ensures in
    (0, inl refl, zero_number token e)

pub returns-in-Some-magnitude : goal.returns-in-Some-magnitude
returns-in-Some-magnitude c =
    let digits = c.in-Some.digits.now in
    let e : c.args.token.now ≡ 45 ∷ digits = c.in-Some.ensures.cases.0 ∙ ap (λ (b : ℕ). b ∷ digits) c.if-first-eq45.true in
    (value digits, c.in-Some-magnitude.ensures.1, negative_number c.args.token.now digits e c.in-Some-magnitude.ensures.0)

pub returns-in-None : goal.returns-in-None
returns-in-None c =
    let digits = c.in-Some.digits.now in
    let e : c.args.token.now ≡ 45 ∷ digits = c.in-Some.ensures.cases.0 ∙ ap (λ (b : ℕ). b ∷ digits) c.if-first-eq45.true in
    negative_none c.args.token.now digits e c.in-None.ensures

pub returns-in-Some-magnitude-2 : goal.returns-in-Some-magnitude-2
returns-in-Some-magnitude-2 c =
    (value c.args.token.now, c.in-Some-magnitude-2.ensures.1, plain_number c.args.token.now c.in-Some-magnitude-2.ensures.0)

pub returns-in-None-magnitude : goal.returns-in-None-magnitude
returns-in-None-magnitude c =
    let token = c.args.token.now in
    let other : token ≡ codes "0" → ⊥ =
    λ e. both_ways _ (sym c.if-eq.ensures) ((bytes_eq-Decides token c.as_slice.result.now).1 (e ∙ sym c.as_slice.ensures)) in
    let begins : BeginsPlain token = elim c.match-split_first.branch [
      | in-Some+else-first-eq45 w ↦ inl (w.in-Some.field-0-0.now, w.in-Some.digits.now, w.in-Some.ensures.cases.0, w.if-first-eq45.false)
      | in_default w ↦ inr w.in_default.ensures.cases
    ] in
    plain_none token other begins c.in-None-magnitude.ensures
