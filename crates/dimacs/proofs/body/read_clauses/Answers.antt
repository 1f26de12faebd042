use Rattle.std.proofs.lemmas.Result.{err_from_is_err_and, IfErr-weaker}
use Rattle.dimacs.proofs.BuildLemmas.{reads_none, reads_end, reads_literal, ends_clause}
use Rattle.dimacs.proofs.FaultLemmas.{zero_fault, literal_fault, end_fault}
use Rattle.dimacs.proofs.body.read_clauses.Goals as goal

pub loop-builder-init : goal.loop-builder-init
loop-builder-init c = rw c.new-2.ensures (reads_none c.args.header _ c.new.result c.new.ensures)

pub returns-in-End-clause-err : goal.returns-in-End-clause-err
returns-in-End-clause-err c =
    IfErr-weaker c.finish.result _ _ (λ fault which other. end_fault c.loop-builder.invariant c.in-End.ensures which) c.finish.ensures.err

pub end_clause-requires-clause-clause : goal.end_clause-requires-clause-clause
end_clause-requires-clause-clause c = ends_clause c.loop-builder.invariant

pub loop-builder-preserved-in-Continue-1 : goal.loop-builder-preserved-in-Continue-1
loop-builder-preserved-in-Continue-1 c =
    let taken = c.in-Zero.ensures in
    let ok = c.in_ok-end_clause-in-Zero.ensures.ok in
    reads_end c.loop-builder.invariant taken.1 taken.2 ok.0 ok.1 ok.2 ok.3 ok.4

pub returns-in_err-end_clause-in-Zero-clause-err :
    goal.returns-in_err-end_clause-in-Zero-clause-err
returns-in_err-end_clause-in-Zero-clause-err c =
    let taken = c.in-Zero.ensures in
    let p = err_from_is_err_and c.from_residual.result c.from_residual.ensures.1 in
    let which = c.in_err-end_clause-in-Zero.ensures.err in
    rw (p.1, p.2) (zero_fault c.loop-builder.invariant taken.1 c.line-in-Zero.ensures taken.2 which)

pub loop-builder-preserved : goal.loop-builder-preserved
loop-builder-preserved c =
    let taken = c.in-Literal.ensures in
    let ensures = c.in_ok-literal-in-Literal.ensures in
    let ok = ensures.ok in
    reads_literal c.loop-builder.invariant taken.1 taken.2 taken.3 ok.0 ok.1 ok.2 ok.3 ensures.formula ensures.left

pub returns-in_err-literal-in-Literal-clause-err :
    goal.returns-in_err-literal-in-Literal-clause-err
returns-in_err-literal-in-Literal-clause-err c =
    let taken = c.in-Literal.ensures in
    let residual = c.from_residual-in_err-literal-in-Literal in
    let p = err_from_is_err_and residual.result residual.ensures.1 in
    let which = c.in_err-literal-in-Literal.ensures.err in
    rw (p.1, p.2) (literal_fault c.loop-builder.invariant taken.1 c.line-in-Literal.ensures taken.2 taken.3 which)
