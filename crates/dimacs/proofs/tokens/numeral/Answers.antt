use Rattle.std.proofs.Common.{◌≡◌, ℕ, List, [], refl, sym, ap, ◌∙◌, inl, inr, arith}
use Rattle.dimacs.specs.Numerals.{is_numeral, all_digits}
use Rattle.dimacs.specs.internal.Places.{first_run, after_run}
use Rattle.dimacs.proofs.NumeralLemmas.{numeral_none, numeral_broken, numeral_stops, numeral_read, numeral_large, ended_at_separator}
use Rattle.dimacs.proofs.NumeralLemmas.{ended_at_end, digits_more, value_more, after_run_more, is_numeral-begun}
use Rattle.dimacs.proofs.tokens.numeral.Goals as goal
use Rattle.dimacs.proofs.tokens.numeral.Goals.{then-first-eq48-via-then-first-eq48, then-first-eq48-via-else-first-eq48+then-not-is_digit}
use Rattle.dimacs.proofs.tokens.numeral.Goals.{in-Some-split_first+then-not-is_digit-2+then-is_separator, in_default-split_first}

pub returns-in_default : goal.returns-in_default
returns-in_default c = numeral_none c.args.text.now c.in_default.ensures.cases

pub returns-then-first-eq48 : goal.returns-then-first-eq48
returns-then-first-eq48 c =
    numeral_broken c.args.text.now c.in-Some.field-0-0.now c.in-Some.rest.now c.in-Some.ensures.cases.0
    (elim c.then-first-eq48.branch [
      | then-first-eq48-via-then-first-eq48 w ↦ inl w.if-first-eq48.true
      | then-first-eq48-via-else-first-eq48+then-not-is_digit w ↦ inr (sym w.if-not-is_digit.ensures.value)
    ])

pub returns-then-not-is_digit-2 : goal.returns-then-not-is_digit-2
returns-then-not-is_digit-2 c =
    let bound = c.if-not-is_digit.ensures.bound refl in
    numeral_stops c.args.text.now c.in-Some.field-0-0.now c.in-Some.rest.now c.loop-byte.rest.now c.in-Some-split_first.field-0-0.now
    c.in-Some-split_first.after.now c.in-Some.ensures.cases.0 (omega (arith, bound.0)) bound.1 c.loop-byte.invariant.digits
    c.in-Some-split_first.ensures.cases.0 (sym c.if-is_separator.ensures) (sym c.if-not-is_digit-2.ensures.value)

pub returns-in-Some-skip_digits : goal.returns-in-Some-skip_digits
returns-in-Some-skip_digits c =
    let bound = c.if-not-is_digit.ensures.bound refl in
    let before = c.loop-byte.invariant in
    numeral_large c.args.text.now c.in-Some.field-0-0.now c.in-Some.rest.now c.loop-byte.rest.now c.in-Some-skip_digits.rest.now
    c.loop-byte.value c.from-value.result c.in-Some.ensures.cases.0 (omega (arith, bound.0)) bound.1 c.from-value.ensures before.digits
    before.number before.left c.if-value-gt-MAX_VARIABLE.true c.in-Some-skip_digits.ensures.0 c.in-Some-skip_digits.ensures.1

pub returns-in-None : goal.returns-in-None
returns-in-None c =
    let bound = c.if-not-is_digit.ensures.bound refl in
    let text = c.args.text.now in
    let b = c.in-Some.field-0-0.now in
    let after = c.in-Some.rest.now in
    ap (λ (x : List ℕ). is_numeral (first_run x)) c.in-Some.ensures.cases.0 ∙ is_numeral-begun b after (omega (arith, bound.0)) bound.1
    ∙ sym c.loop-byte.invariant.digits ∙ c.in-None.ensures

pub loop-byte-preserved : goal.loop-byte-preserved
loop-byte-preserved c =
    let b = c.in-Some-split_first.field-0-0.now in
    let after = c.in-Some-split_first.after.now in
    let whole = c.in-Some-split_first.ensures.cases.0 in
    let bound = c.if-not-is_digit-2.ensures.bound refl in
    let before = c.loop-byte.invariant in record {
      digits = sym (ap (λ (x : List ℕ). all_digits (first_run x)) whole ∙ digits_more b after bound.0 bound.1) ∙ before.digits;
      number = value_more c.loop-byte.rest.now b after c.loop-byte.value c.from.result _ whole bound.0 c.from.ensures before.number;
      positive = omega (arith, before.positive);
      left = sym (ap after_run whole ∙ after_run_more b after bound.0) ∙ before.left;
    }

pub returns : goal.returns
returns c =
    let bound = c.if-not-is_digit.ensures.bound refl in
    let rest = c.loop-byte.rest.now in
    let ended : (first_run rest ≡ []) × (after_run rest ≡ rest) = elim c.match-split_first-2.branch [
      | in-Some-split_first+then-not-is_digit-2+then-is_separator w ↦ ended_at_separator rest w.in-Some-split_first.field-0-0.now
          w.in-Some-split_first.after.now w.in-Some-split_first.ensures.cases.0 (sym w.if-is_separator.ensures)
      | in_default-split_first w ↦ ended_at_end rest w.in_default-split_first.ensures.cases
    ] in
    let before = c.loop-byte.invariant in
    numeral_read c.args.text.now c.in-Some.field-0-0.now c.in-Some.rest.now rest c.loop-byte.value
    c.from-value.result c.in-Some.ensures.cases.0 (omega (arith, bound.0)) bound.1 c.from-value.ensures before.digits
    (inl before.number) before.positive before.left ended.0 ended.1
