use Rattle.std.proofs.Common.{true, ◌∷◌, sym, subst, arith}
use Rattle.std.proofs.lemmas.Result.{err_from_is_err_and}
use Rattle.lrup_text.specs.internal.CubeReading.{IsRestFault}
use Rattle.lrup_text.specs.internal.Rests.{BeforeLiteral, AfterMinus, InLiteral}
use Rattle.lrup_text.proofs.CubeFaults.{misspelled, rest_fault}
use Rattle.lrup_text.proofs.Steps.{body_minus, body_digit, body_blocks}
use Rattle.lrup_text.proofs.cube.read_literal.Goals as goal

pub returns-in_err-number-clause-fault : goal.returns-in_err-number-clause-fault
returns-in_err-number-clause-fault c =
    let p = err_from_is_err_and c.from_residual.result c.from_residual.ensures.1 in
    let fault = c.in_err-number.field-0.0 in
    rw (p.1, p.2) (subst (λ b. IsRestFault (BeforeLiteral true) (b ∷ c.args.after.now) fault) (sym c.if-first-eq45.true)
    (rest_fault (BeforeLiteral true) (AfterMinus true) 45 c.args.after.now fault (λ n. body_minus true n) c.in_err-number.ensures.fault))

pub returns-then-not-begins_number-clause-fault : goal.returns-then-not-begins_number-clause-fault
returns-then-not-begins_number-clause-fault c read n few occurs =
    misspelled read (BeforeLiteral true n) c.args.first c.args.after.now occurs (omega (arith, few))
    (λ signed. body_blocks signed true n c.args.first c.requires c.if-first-eq45.false
    (λ low high. let wrong = c.if-not-begins_number.ensures.1 (low, high) in cc) (λ none adds. cc))

pub returns-in_err-number-2-clause-fault : goal.returns-in_err-number-2-clause-fault
returns-in_err-number-2-clause-fault c =
    let p = err_from_is_err_and c.from_residual-in_err-number-2.result c.from_residual-in_err-number-2.ensures.1 in
    let digit = c.begins_number.ensures.0 c.if-not-begins_number.false in
    let fault = c.in_err-number-2.field-0.0 in
    rw (p.1, p.2) (rest_fault (BeforeLiteral true) (InLiteral true 1) c.args.first c.args.after.now fault
    (λ n. body_digit true n c.args.first digit.0 digit.1) c.in_err-number-2.ensures.fault)
