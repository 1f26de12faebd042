use Rattle.std.proofs.Common.{◌≡◌, ◌==◌, ℕ, ℤ, pos, neg_ℤ, List, [], ◌∷◌, length, Some, cond, refl, sym, ap, ◌∙◌, arith}
use Rattle.dimacs.specs.Numerals.{number_of, value}
use Rattle.dimacs.specs.internal.Places.{tokens_at, first_run, after_run}
use Rattle.dimacs.proofs.TokenLemmas.{no_token, token_taken, number_of-zero, number_of-leading_zero, number_of-none, number_of-some}
use Rattle.dimacs.proofs.TokenLemmas.{after_run_digits, digits_within, above_range, within_range, after_run_at_end, digits_of}
use Rattle.dimacs.proofs.tokens.Tokens.next.Goals as goal

pub returns-in_default : goal.returns-in_default
returns-in_default c =
    let skipped = c.skip.new.self in
    no_token skipped.line c.args.self.now.line c.args.self.now.rest.now skipped.rest.now c.skip.ensures.same c.in_default.ensures.cases

pub returns-then-not-ends_token : goal.returns-then-not-ends_token
returns-then-not-ends_token c =
    let skipped = c.skip.new.self in
    let b = c.in-Some.field-0-0.now in
    let after = c.in-Some.after.now in
    let more : first_run after ≡ [] → ⊥ = λ none. let wrong = c.if-not-ends_token.ensures.1 none in cc in (
      b ∷ first_run after,
      tokens_at skipped.line (after_run after),
      token_taken skipped.line c.args.self.now.line c.args.self.now.rest.now skipped.rest.now b after c.skip.ensures.same
          c.skip.ensures.place c.in-Some.ensures.cases.0,
      ap (λ (x : ℕ). number_of (x ∷ first_run after)) c.if-first-eq48.true ∙ number_of-leading_zero (first_run after) more,
    )

pub returns-then-first-eq48 : goal.returns-then-first-eq48
returns-then-first-eq48 c =
    let skipped = c.skip.new.self in
    let b = c.in-Some.field-0-0.now in
    let after = c.in-Some.after.now in
    let none = c.if-not-ends_token.ensures.0 refl in (
      b ∷ first_run after,
      token_taken skipped.line c.args.self.now.line c.args.self.now.rest.now skipped.rest.now b after c.skip.ensures.same
          c.skip.ensures.place c.in-Some.ensures.cases.0 ∙ ap (λ (x : List ℕ). record {
            line = skipped.line;
            text = b ∷ first_run after;
          } ∷ tokens_at skipped.line x) (after_run_at_end after none),
      ap (λ (x : ℕ). number_of (x ∷ first_run after)) c.if-first-eq48.true ∙ number_of-zero (first_run after) none,
    )

pub returns-in_default-numeral : goal.returns-in_default-numeral
returns-in_default-numeral c =
    let skipped = c.skip.new.self in
    let b = c.in-Some.field-0-0.now in
    let after = c.in-Some.after.now in
    let digits = c.after_sign-digits.result.now in
    let which = digits_of b after skipped.rest.now digits c.in-Some.ensures.cases.0 c.after_sign-digits.ensures in (
      b ∷ first_run after,
      tokens_at skipped.line (after_run after),
      token_taken skipped.line c.args.self.now.line c.args.self.now.rest.now skipped.rest.now b after c.skip.ensures.same
          c.skip.ensures.place c.in-Some.ensures.cases.0,
      number_of-none b after skipped.rest.now digits c.in-Some.ensures.cases.0 c.skip.ensures.place c.if-first-eq48.false which
          c.in_default-numeral.ensures,
    )

pub returns-then-value-vars : goal.returns-then-value-vars
returns-then-value-vars c =
    let skipped = c.skip.new.self in
    let b = c.in-Some.field-0-0.now in
    let after = c.in-Some.after.now in
    let digits = c.after_sign-digits.result.now in
    let read = c.in-Some-numeral.ensures in
    let which = digits_of b after skipped.rest.now digits c.in-Some.ensures.cases.0 c.after_sign-digits.ensures in (
      b ∷ first_run after,
      tokens_at skipped.line (after_run after),
      token_taken skipped.line c.args.self.now.line c.args.self.now.rest.now skipped.rest.now b after c.skip.ensures.same
          c.skip.ensures.place c.in-Some.ensures.cases.0,
      cond (b == 45) (neg_ℤ (pos (value (first_run digits)))) (pos (value (first_run digits))),
      number_of-some b after skipped.rest.now digits c.in-Some.ensures.cases.0 c.skip.ensures.place c.if-first-eq48.false
          which read.numeral,
      above_range (b == 45) c.in-Some-numeral.value (value (first_run digits)) c.args.vars c.requires read.number c.if-value-vars.true,
    )

pub invariant_of-self-2 : goal.invariant_of-self-2
invariant_of-self-2 c =
    let skipped = c.skip.new.self in
    let b = c.in-Some.field-0-0.now in
    let after = c.in-Some.after.now in
    let digits = c.after_sign-digits.result.now in
    let read = c.in-Some-numeral.ensures in
    let which = digits_of b after skipped.rest.now digits c.in-Some.ensures.cases.0 c.after_sign-digits.ensures in
    let shorter = digits_within b after skipped.rest.now digits c.in-Some.ensures.cases.0 which in
    record { countable = omega (arith, shorter, ap length read.rest_is, skipped.countable) }

pub returns : goal.returns
returns c =
    let skipped = c.skip.new.self in
    let b = c.in-Some.field-0-0.now in
    let after = c.in-Some.after.now in
    let digits = c.after_sign-digits.result.now in
    let read = c.in-Some-numeral.ensures in
    let n = c.in-Some-numeral.value in
    let which = digits_of b after skipped.rest.now digits c.in-Some.ensures.cases.0 c.after_sign-digits.ensures in
    let within =
    within_range (b == 45) n (value (first_run digits)) c.args.vars c.requires read.number c.if-value-vars.false read.positive in (
      b ∷ first_run after,
      token_taken skipped.line c.args.self.now.line c.args.self.now.rest.now skipped.rest.now
          b after c.skip.ensures.same c.skip.ensures.place c.in-Some.ensures.cases.0
          ∙ ap (λ (x : List ℕ). record { line = skipped.line; text = b ∷ first_run after } ∷ tokens_at skipped.line x)
          (sym (read.rest_is ∙ after_run_digits b after skipped.rest.now digits c.in-Some.ensures.cases.0 c.skip.ensures.place which)),
      number_of-some b after skipped.rest.now digits c.in-Some.ensures.cases.0 c.skip.ensures.place c.if-first-eq48.false which read.numeral
          ∙ ap (λ (m : ℕ). Some (cond (b == 45) (neg_ℤ (pos m)) (pos m))) within.0 ∙ ap (λ (z : ℤ). Some z) (sym c.literal.ensures),
      rw c.literal.ensures within.1,
    )
