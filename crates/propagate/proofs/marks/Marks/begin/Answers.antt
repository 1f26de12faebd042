use Rattle.lrup_model.specs.lemmas.DistinctLemmas.{Has-distinct, Has-from_distinct, IsClause-distinct, IsTautology-distinct, all_taken}
use Rattle.propagate.proofs.marks.Marks.begin.Goals as goal

pub returns-clause-clause : goal.returns-clause-clause
returns-clause-clause c =
    let all =
    all_taken c.args.clause.now c.add_all.new.self.literals c.len-self-inside.result c.len-self-inside.ensures c.in_default.ensures.ok in
    rw all (IsClause-distinct c.args.self.now.vars c.args.clause.now c.requires)

pub returns-clause-members : goal.returns-clause-members
returns-clause-members c =
    let all =
    all_taken c.args.clause.now c.add_all.new.self.literals c.len-self-inside.result c.len-self-inside.ensures c.in_default.ensures.ok in
    rw all (λ l. (Has-from_distinct c.args.clause.now l, Has-distinct c.args.clause.now l))

pub returns-clause-consistent : goal.returns-clause-consistent
returns-clause-consistent c =
    let all =
    all_taken c.args.clause.now c.add_all.new.self.literals c.len-self-inside.result c.len-self-inside.ensures c.in_default.ensures.ok in
    rw all (λ t. let fault = c.in_default.ensures.tautology.1 (IsTautology-distinct c.args.clause.now t) in cc)
