use Rattle.std.proofs.Common.{ap, length, ◌∙◌, sym}
use Rattle.lrup_model.specs.Formula.{Cnf}
use Rattle.lrup_model.proofs.PieceLemmas.{length-pieces}
use Rattle.lrup_model.proofs.formula.Formula.len.Goals as goal

pub returns-clause-len : goal.returns-clause-len
returns-clause-len c =
    ap length c.as_slice.ensures.value ∙ sym (length-pieces c.self.inside.literals.items 0 c.self.inside.ends.items)
    ∙ ap (λ (f : Cnf). length f.clauses) c.self.view_is
