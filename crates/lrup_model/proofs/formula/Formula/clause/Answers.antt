use Rattle.std.proofs.Common.{arith, ◌≡◌, ap, length, ◌∙◌, sym}
use Rattle.lrup_model.specs.Formula.{Cnf}
use Rattle.lrup_model.proofs.PieceLemmas.{length-pieces}
use Rattle.lrup_model.proofs.formula.Formula.clause.Goals as goal

pub part-requires-clause-within : goal.part-requires-clause-within
part-requires-clause-within c =
    let count : length c.args.self.now.clauses ≡ length c.self.inside.ends.items = sym (ap (λ (f : Cnf). length f.clauses) c.self.view_is)
    ∙ length-pieces c.self.inside.literals.items 0 c.self.inside.ends.items in
    let same : length c.deref-2.result.now ≡ length c.self.inside.ends.items = ap length c.deref-2.ensures.value in
    omega arith
