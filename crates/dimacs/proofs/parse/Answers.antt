use Rattle.std.proofs.Common.{sym, ◌∙◌, inr}
use Rattle.std.proofs.lemmas.Result.{IfOk-weaker, IfErr-weaker}
use Rattle.lrup_model.specs.Formula.{Cnf}
use Rattle.dimacs.specs.declared.fault.DimacsFault.{DimacsFault}
use Rattle.dimacs.specs.Lines.{runs}
use Rattle.dimacs.specs.FormulaTokens.{AreClauses}
use Rattle.dimacs.specs.FormulaFault.{IsBodyFault}
use Rattle.dimacs.proofs.FaultLemmas.{in_body}
use Rattle.dimacs.proofs.TextLemmas.{text_of_body}
use Rattle.dimacs.proofs.parse.Goals as goal

pub returns-clause-formula : goal.returns-clause-formula
returns-clause-formula c =
    let header = c.in_ok-header.header in
    let left = c.next_line.new.self in
    IfOk-weaker c.read_clauses.result _ _ (λ (f : Cnf) read. text_of_body c.args.bytes.now f
    (in_body (AreClauses f) c.args.bytes.now (runs c.in-Some.line.now) left.rest.now left.line left.line header.vars header.clauses
    (sym c.new-tokens.ensures ∙ c.in-Some.ensures) c.in_ok-header.ensures read)) c.read_clauses.ensures.ok

pub returns-clause-fault : goal.returns-clause-fault
returns-clause-fault c =
    let header = c.in_ok-header.header in
    let left = c.next_line.new.self in
    IfErr-weaker c.read_clauses.result _ _ (λ (fault : DimacsFault) read other. inr
    (in_body (IsBodyFault fault) c.args.bytes.now (runs c.in-Some.line.now) left.rest.now left.line left.line header.vars header.clauses
    (sym c.new-tokens.ensures ∙ c.in-Some.ensures) c.in_ok-header.ensures (read other))) c.read_clauses.ensures.err
