use Rattle.std.proofs.Common.{◌≡◌, ℕ, ◌<◌, ◌≤◌, ◌+◌, ◌-◌, ◌^◌, ◌∷◌, ◌++◌, drop, length, refl, sym, ◌∙◌, ap, arith}
use Rattle.std.specs.Fmt.{decimal}
use Rattle.std.proofs.lemmas.Fmt.{length-decimal-le}
use Rattle.std.proofs.lemmas.Grind.{drop-set_at}
use Rattle.std.proofs.lemmas.List.{drop-set-lt}
use Rattle.lrup_text.specs.internal.ByteNames.{minus}
use Rattle.lrup_text.specs.internal.Reading.{literal_front}
use Rattle.lrup_text.proofs.writer.spell.Goals as goal

-- there is room for a sign before the digits
before : (magnitude digits : ℕ) → magnitude < 2 ^ 64 → digits + length (decimal magnitude) ≡ 21 → 1 ≤ digits
before magnitude digits fits is = omega (arith, is, length-decimal-le 20 magnitude (omega arith) (omega arith) fits)

pub write_digits-digits-requires : goal.write_digits-digits-requires
write_digits-digits-requires c =
    (omega (arith, length-decimal-le 20 c.args.magnitude (omega arith) (omega arith) (omega arith)), c.requires)

pub overflow_sub-bytes : goal.overflow_sub-bytes
overflow_sub-bytes c = before c.args.magnitude c.write_digits-digits.result (omega arith) c.write_digits-digits.ensures.start

pub bounds-bytes-digits : goal.bounds-bytes-digits
bounds-bytes-digits c =
    let some = before c.args.magnitude c.write_digits-digits.result (omega arith) c.write_digits-digits.ensures.start in
    omega (arith, some, c.write_digits-digits.ensures.start, c.write_digits-digits.auto.buf, c.requires)

pub overflow_sub-result : goal.overflow_sub-result
overflow_sub-result c = before c.args.magnitude c.write_digits-digits.result (omega arith) c.write_digits-digits.ensures.start

pub returns-then-negative-clause-start : goal.returns-then-negative-clause-start
returns-then-negative-clause-start c =
    let some = before c.args.magnitude c.write_digits-digits.result (omega arith) c.write_digits-digits.ensures.start in
    omega (arith, some, c.write_digits-digits.ensures.start, ap (λ sign. length (literal_front sign c.args.magnitude)) c.if-negative.true)

pub returns-then-negative-clause-text : goal.returns-then-negative-clause-text
returns-then-negative-clause-text c =
    let digits = c.write_digits-digits.result in
    let bytes = c.write_digits-digits.new.buf in
    let some = before c.args.magnitude digits (omega arith) c.write_digits-digits.ensures.start in
    let next : (digits - 1) + 1 ≡ digits = omega (arith, some) in
    drop-set_at bytes (digits - 1) (digits - 1) minus refl
    (omega (arith, some, c.write_digits-digits.ensures.start, c.write_digits-digits.auto.buf, c.requires))
    ∙ ap (λ k. minus ∷ drop k bytes) next ∙ ap (λ t. minus ∷ t) c.write_digits-digits.ensures.written
    ∙ ap (λ sign. literal_front sign c.args.magnitude ++ drop 21 c.args.bytes.now) (sym c.if-negative.true)

pub returns-else-negative-clause-start : goal.returns-else-negative-clause-start
returns-else-negative-clause-start c =
    omega (arith, c.write_digits-digits.ensures.start, ap (λ sign. length (literal_front sign c.args.magnitude)) c.if-negative.false)

pub returns-else-negative-clause-text : goal.returns-else-negative-clause-text
returns-else-negative-clause-text c =
    let digits = c.write_digits-digits.result in
    let some = before c.args.magnitude digits (omega arith) c.write_digits-digits.ensures.start in
    drop-set-lt digits c.write_digits-digits.new.buf (digits - 1) minus (omega (arith, some)) ∙ c.write_digits-digits.ensures.written
    ∙ ap (λ sign. literal_front sign c.args.magnitude ++ drop 21 c.args.bytes.now) (sym c.if-negative.false)
