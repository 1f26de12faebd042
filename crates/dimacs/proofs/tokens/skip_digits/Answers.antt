use Rattle.std.proofs.Common.{◌≡◌, ℕ, List, [], refl, sym, ap, ◌∙◌}
use Rattle.dimacs.specs.Numerals.{all_digits}
use Rattle.dimacs.specs.internal.Places.{first_run, after_run}
use Rattle.dimacs.proofs.NumeralLemmas.{ended_at_separator, ended_at_end, digits_more, digits_broken, after_run_more}
use Rattle.dimacs.proofs.tokens.skip_digits.Goals as goal
use Rattle.dimacs.proofs.tokens.skip_digits.Goals.{in-Some+then-is_separator, in_default}

pub returns-then-not-is_digit : goal.returns-then-not-is_digit
returns-then-not-is_digit c =
    sym c.loop-byte.invariant.digits ∙ ap (λ (x : List ℕ). all_digits (first_run x)) c.in-Some.ensures.cases.0
    ∙ digits_broken c.in-Some.field-0-0.now c.in-Some.after.now (sym c.if-is_separator.ensures) (sym c.if-not-is_digit.ensures.value)

pub loop-byte-preserved : goal.loop-byte-preserved
loop-byte-preserved c =
    let b = c.in-Some.field-0-0.now in
    let after = c.in-Some.after.now in
    let whole = c.in-Some.ensures.cases.0 in
    let bound = c.if-not-is_digit.ensures.bound refl in
    let before = c.loop-byte.invariant in record {
      digits = sym (ap (λ (x : List ℕ). all_digits (first_run x)) whole ∙ digits_more b after bound.0 bound.1) ∙ before.digits;
      left = sym (ap after_run whole ∙ after_run_more b after bound.0) ∙ before.left;
    }

pub returns : goal.returns
returns c =
    let rest = c.loop-byte.rest.now in
    let ended : (first_run rest ≡ []) × (after_run rest ≡ rest) = elim c.match-split_first.branch [
      | in-Some+then-is_separator w ↦
          ended_at_separator rest w.in-Some.field-0-0.now w.in-Some.after.now w.in-Some.ensures.cases.0 (sym w.if-is_separator.ensures)
      | in_default w ↦ ended_at_end rest w.in_default.ensures.cases
    ] in
    (sym c.loop-byte.invariant.digits ∙ ap all_digits ended.0, sym ended.1 ∙ c.loop-byte.invariant.left)
