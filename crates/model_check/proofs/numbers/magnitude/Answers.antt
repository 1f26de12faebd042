use Rattle.std.proofs.Common.{◌≡◌, ◌+◌, ◌*◌, ◌++◌, ◌∷◌, ℕ, List, [], take, get_or, sym, ap, subst, ◌∙◌, inl, inr}
use Rattle.std.proofs.lemmas.List.{take_more}
use Rattle.dimacs.specs.Numerals.{all_digits, value_after}
use Rattle.model_check.specs.internal.Numbers.{IsCapped}
use Rattle.model_check.proofs.NumberLemmas.{digits_more, capped_more, capped_stays, no_numeral-later}
use Rattle.model_check.proofs.numbers.magnitude.Goals as goal
use Rattle.model_check.proofs.numbers.magnitude.Goals.{then-byte-lt48-via-then-byte-lt48}
use Rattle.model_check.proofs.numbers.magnitude.Goals.{then-byte-lt48-via-else-byte-lt48+then-byte-gt57, then-value-le-MAX_VARIABLE}
use Rattle.model_check.proofs.numbers.magnitude.Goals.{else-value-le-MAX_VARIABLE}

pub returns-then-byte-lt48 : goal.returns-then-byte-lt48
returns-then-byte-lt48 c =
    no_numeral-later c.args.digits.now c.in-Some.field-0-0.now c.in-Some.rest.now c.loop-byte.byte-index
    c.in-Some.ensures.cases.0 c.loop-byte-test.true
    (elim c.then-byte-lt48.branch [
      | then-byte-lt48-via-then-byte-lt48 w ↦ inl w.if-byte-lt48.true
      | then-byte-lt48-via-else-byte-lt48+then-byte-gt57 w ↦ inr w.if-byte-gt57.true
    ])

pub loop-byte-preserved : goal.loop-byte-preserved
loop-byte-preserved c =
    let rest = c.in-Some.rest.now in
    let k = c.loop-byte.byte-index in
    let b = get_or rest k 0 in
    let e : take (k + 1) rest ≡ take k rest ++ b ∷ [] = take_more rest k 0 c.loop-byte-test.true in record {
      digits = ap all_digits e
          ∙ digits_more (take k rest) b c.loop-byte.invariant.digits c.if-byte-lt48.false c.if-byte-gt57.false;
      number = subst (λ (x : List ℕ). IsCapped c.if-value-le-MAX_VARIABLE.value (value_after c.from-value.result x)) (sym e)
          (elim c.if-value-le-MAX_VARIABLE.branch [
            | then-value-le-MAX_VARIABLE w ↦ subst (λ (m : ℕ). IsCapped m (value_after c.from-value.result (take k rest ++ b ∷ [])))
                (sym (w.value-is ∙ ap (λ (m : ℕ). 10 * c.loop-byte.value + m) w.from.ensures))
                (capped_more c.loop-byte.value (take k rest) b c.from-value.result c.loop-byte.invariant.number
                w.if-value-le-MAX_VARIABLE.true)
            | else-value-le-MAX_VARIABLE w ↦ subst (λ (m : ℕ). IsCapped m (value_after c.from-value.result (take k rest ++ b ∷ [])))
                (sym w.value-is)
                (capped_stays c.loop-byte.value (take k rest) b c.from-value.result c.loop-byte.invariant.number
                w.if-value-le-MAX_VARIABLE.false)
          ]);
    }
