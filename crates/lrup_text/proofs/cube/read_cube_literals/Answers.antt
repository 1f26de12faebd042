use Rattle.std.proofs.Common.{ℕ, true, List, [], ◌∷◌, ◌++◌, ◌<◌, w64, ap, sym, ◌∙◌, arith, rules}
use Rattle.std.proofs.lemmas.Bool.{true≢false}
use Rattle.std.proofs.lemmas.Int.{to_z-of_z, fits_signed_from_abs}
use Rattle.std.proofs.lemmas.List.{nil_from_length}
use Rattle.std.proofs.lemmas.Result.{err_from_is_err_and}
use Rattle.lrup_text.specs.declared.cube.CubeFault.TheVariants.{Spelling}
use Rattle.lrup_text.specs.internal.CubeReading.{ReadsLiteral}
use Rattle.lrup_text.specs.internal.Rests.{BeforeLiteral}
use Rattle.lrup_text.proofs.CubeFaults.{too_short, wrong_end}
use Rattle.lrup_text.proofs.CubeReads.{literals_start, literals_next, literals_fault, text_read, kept_text, kept_fault, spelling_fault}
use Rattle.lrup_text.proofs.cube.read_cube_literals.Goals as goal

pub loop-first-init : goal.loop-first-init
loop-first-init c = ([], literals_start c.args.text.now, (c.new.ensures.items, tt))

pub returns-then-is_end : goal.returns-then-is_end
returns-then-is_end c =
    let read = c.loop-first.invariant in
    let ends = c.in-Some.ensures.cases.0 ∙ ap (λ b. b ∷ c.in-Some.after.now) c.if-first-eq48.true
    ∙ ap (λ (t : List ℕ). 48 ∷ t) (c.is_end.ensures.0 c.if-is_end.true) in
    let is = text_read c.args.text.now read.0 c.loop-first.count c.loop-first.rest.now read.1 ends in
    record {
      text = kept_text (λ kept. kept.items) c.args.vars read.0 c.args.text.now is c.loop-first.kept read.2;
      over = search rules;
      fault = kept_fault (λ kept. kept.items) c.args.vars read.0 c.args.text.now is c.loop-first.kept read.2;
    }

pub returns-else-is_end-clause-fault : goal.returns-else-is_end-clause-fault
returns-else-is_end-clause-fault c =
    let read = c.loop-first.invariant in
    literals_fault c.args.text.now read.0 c.loop-first.count c.loop-first.rest.now Spelling read.1
    (λ before occurs. rw (c.in-Some.ensures.cases.0 ∙ ap (λ b. b ∷ c.in-Some.after.now) c.if-first-eq48.true)
    (wrong_end before c.loop-first.count c.in-Some.after.now occurs read.1.few
    (λ is. true≢false (sym (c.is_end.ensures.1 is) ∙ c.if-is_end.false))))

pub returns-then-count-eq-MAX_LITERALS-clause-fault :
    goal.returns-then-count-eq-MAX_LITERALS-clause-fault
returns-then-count-eq-MAX_LITERALS-clause-fault c =
    let read = c.loop-first.invariant in
    let fault = c.after_most.result in
    spelling_fault c.args.vars c.args.text.now fault
    (literals_fault c.args.text.now read.0 c.loop-first.count c.loop-first.rest.now fault read.1
    (λ before occurs. rw c.in-Some.ensures.cases.0
    (c.after_most.ensures before c.in-Some.after.now (rw c.if-count-eq-MAX_LITERALS.true at occurs))))

pub returns-in_err-literal-clause-fault : goal.returns-in_err-literal-clause-fault
returns-in_err-literal-clause-fault c =
    let read = c.loop-first.invariant in
    let p = err_from_is_err_and c.from_residual.result c.from_residual.ensures.1 in
    let fault = c.in_err-literal.field-0.0 in
    let few : c.loop-first.count < 65535 = omega (arith, read.1.few, c.if-count-eq-MAX_LITERALS.false) in
    rw (p.1, p.2) (spelling_fault c.args.vars c.args.text.now fault
    (literals_fault c.args.text.now read.0 c.loop-first.count c.loop-first.rest.now fault read.1
    (λ before occurs. rw c.in-Some.ensures.cases.0 (c.in_err-literal.ensures.fault before c.loop-first.count few occurs))))

pub loop-first-preserved : goal.loop-first-preserved
loop-first-preserved c =
    let read = c.loop-first.invariant in
    let few : c.loop-first.count < 65535 = omega (arith, read.1.few, c.if-count-eq-MAX_LITERALS.false) in
    let literal = c.in_ok-literal.literal in
    let taken : ReadsLiteral c.loop-first.rest.now literal c.in_ok-literal.next.now =
    rw c.in-Some.ensures.cases.0 c.in_ok-literal.ensures.literal in
    let same = to_z-of_z w64 literal (fits_signed_from_abs w64 literal (omega (arith, taken.fits))) in (
      read.0 ++ literal ∷ [],
      literals_next c.args.text.now read.0 c.loop-first.count c.loop-first.rest.now c.in_ok-literal.next.now literal read.1 taken few,
      rw same at (c.with_literal-kept.ensures read.0 read.2),
    )

pub returns-clause-fault : goal.returns-clause-fault
returns-clause-fault c =
    let read = c.loop-first.invariant in
    literals_fault c.args.text.now read.0 c.loop-first.count c.loop-first.rest.now Spelling read.1
    (λ before occurs. rw (nil_from_length c.loop-first.rest.now c.in_default.ensures.cases)
    (too_short before (BeforeLiteral true c.loop-first.count) occurs read.1.few))
