use Rattle.std.proofs.Common.{ℕ, true, List, ◌∷◌, ◌++◌, ◌+◌, ◌*◌, ◌<◌, ◌∙◌, ap, sym, subst, arith}
use Rattle.std.proofs.lemmas.List.{nil_from_length}
use Rattle.lrup_text.specs.declared.cube.CubeFault.TheVariants.{Spelling, TooLong}
use Rattle.lrup_text.specs.internal.CubeReading.{IsRestFault}
use Rattle.lrup_text.specs.Cubes.{IsCubeLine, IsTextFault}
use Rattle.lrup_text.specs.internal.Rests.{InLiteral}
use Rattle.lrup_text.proofs.CubeReads.{DigitsSoFar, digits_start, digits_next, next_fits, digits_read, digits_fault}
use Rattle.lrup_text.proofs.CubeFaults.{misspelled, too_long, too_short}
use Rattle.lrup_text.proofs.Steps.{literal_blocks, literal_exceeds}
use Rattle.lrup_text.proofs.cube.read_digits.Goals as goal

pub loop-byte-init : goal.loop-byte-init
loop-byte-init c = rw c.from-number.ensures (digits_start c.args.first c.args.after.now c.requires.low c.requires.high)

pub returns-then-byte-eq32-clause-number : goal.returns-then-byte-eq32-clause-number
returns-then-byte-eq32-clause-number c =
    digits_read c.args.first c.args.after.now c.loop-byte.number c.loop-byte.digits c.loop-byte.rest.now c.in-Some.next.now
    c.loop-byte.invariant
    (c.in-Some.ensures.cases.0 ∙ ap (λ b. b ∷ c.in-Some.next.now) c.if-byte-eq32.true)

pub returns-then-not-is_digit-clause-fault : goal.returns-then-not-is_digit-clause-fault
returns-then-not-is_digit-clause-fault c =
    let k = c.loop-byte.digits in
    digits_fault c.args.first c.args.after.now c.loop-byte.number k c.loop-byte.rest.now Spelling c.loop-byte.invariant
    (λ read n few occurs. subst (λ (t : List ℕ). IsTextFault IsCubeLine (read ++ t) Spelling) (sym c.in-Some.ensures.cases.0)
    (misspelled read (InLiteral true k n) c.in-Some.field-0-0.now c.in-Some.next.now occurs (c.loop-byte.invariant.fits.few, few)
    (λ signed. literal_blocks signed true k n c.in-Some.field-0-0.now (λ low high. let wrong = c.if-not-is_digit.ensures.1 (
      low,
      high,
    ) in cc) c.if-byte-eq32.false)))

pub returns-then-digits-eq-MAX_DIGITS-clause-fault :
    goal.returns-then-digits-eq-MAX_DIGITS-clause-fault
returns-then-digits-eq-MAX_DIGITS-clause-fault c =
    let digit = c.is_digit.ensures.0 c.if-not-is_digit.false in
    digits_fault c.args.first c.args.after.now c.loop-byte.number c.loop-byte.digits c.loop-byte.rest.now TooLong c.loop-byte.invariant
    (subst (λ k. IsRestFault (InLiteral true k) c.loop-byte.rest.now TooLong) (sym c.if-digits-eq-MAX_DIGITS.true)
    (λ read n few occurs. subst (λ (t : List ℕ). IsTextFault IsCubeLine (read ++ t) TooLong) (sym c.in-Some.ensures.cases.0)
    (too_long read (InLiteral true 18 n) c.in-Some.field-0-0.now c.in-Some.next.now occurs (omega arith, few)
    (literal_exceeds true n c.in-Some.field-0-0.now few digit))))

pub overflow_mul-number : goal.overflow_mul-number
overflow_mul-number c =
    let few : c.loop-byte.digits < 18 = omega (arith, c.loop-byte.invariant.fits.few, c.if-digits-eq-MAX_DIGITS.false) in
    let digit = c.is_digit.ensures.0 c.if-not-is_digit.false in
    omega (
      arith,
      next_fits c.args.first c.args.after.now c.loop-byte.number c.loop-byte.digits c.loop-byte.rest.now c.in-Some.field-0-0.now
          c.loop-byte.invariant digit few,
    )

pub overflow_add-number : goal.overflow_add-number
overflow_add-number c =
    let few : c.loop-byte.digits < 18 = omega (arith, c.loop-byte.invariant.fits.few, c.if-digits-eq-MAX_DIGITS.false) in
    let digit = c.is_digit.ensures.0 c.if-not-is_digit.false in
    omega (
      arith,
      next_fits c.args.first c.args.after.now c.loop-byte.number c.loop-byte.digits c.loop-byte.rest.now c.in-Some.field-0-0.now
          c.loop-byte.invariant digit few,
      c.from.ensures,
    )

pub loop-byte-preserved : goal.loop-byte-preserved
loop-byte-preserved c =
    let digit = c.is_digit.ensures.0 c.if-not-is_digit.false in
    let few : c.loop-byte.digits < 18 = omega (arith, c.loop-byte.invariant.fits.few, c.if-digits-eq-MAX_DIGITS.false) in
    let next = c.in-Some.next.now in
    subst (λ d. DigitsSoFar c.args.first c.args.after.now (c.loop-byte.number * 10 + d) (c.loop-byte.digits + 1) next) (sym c.from.ensures)
    (digits_next c.args.first c.args.after.now c.loop-byte.number c.loop-byte.digits c.loop-byte.rest.now next c.in-Some.field-0-0.now
    c.loop-byte.invariant c.in-Some.ensures.cases.0 digit few)

pub returns-clause-fault : goal.returns-clause-fault
returns-clause-fault c =
    let k = c.loop-byte.digits in
    digits_fault c.args.first c.args.after.now c.loop-byte.number k c.loop-byte.rest.now Spelling c.loop-byte.invariant
    (λ read n few occurs. rw (nil_from_length c.loop-byte.rest.now c.in_default.ensures.cases)
    (too_short read (InLiteral true k n) occurs (c.loop-byte.invariant.fits.few, few)))
