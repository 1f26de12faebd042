use Rattle.std.proofs.Common.{◌∷◌, ◌++◌, [], List, ℕ, ap, length, ◌∙◌}
use Rattle.lrup_model.proofs.PieceLemmas.{grown_to, grown_view}
use Rattle.lrup_model.proofs.formula.Formula.push.Goals as goal

pub invariant_of-self-2 : goal.invariant_of-self-2
invariant_of-self-2 c =
    grown_to c.args.self.now c.self.inside.vars c.self.inside.literals.items c.args.clause.now c.extend_from_slice.new.self.items
    c.self.inside.ends.items c.push_reserved.new.self.items c.self.view_is c.self.invariant c.requires.count c.requires.clause
    c.in_ok-extend_from_slice.ensures.items
    (c.push_reserved.ensures.items ∙ ap (λ (ends : List ℕ). ends ++ length c.as_slice-end.result.now ∷ []) c.reserve.ensures.items
    ∙ ap (λ n. c.self.inside.ends.items ++ n ∷ []) (ap length c.as_slice-end.ensures.value))

pub returns-clause-ok : goal.returns-clause-ok
returns-clause-ok c =
    grown_view c.args.self.now c.self.inside.vars c.self.inside.literals.items c.args.clause.now c.extend_from_slice.new.self.items
    c.self.inside.ends.items c.push_reserved.new.self.items c.self.view_is c.self.invariant.1
    c.in_ok-extend_from_slice.ensures.items
    (c.push_reserved.ensures.items ∙ ap (λ (ends : List ℕ). ends ++ length c.as_slice-end.result.now ∷ []) c.reserve.ensures.items
    ∙ ap (λ n. c.self.inside.ends.items ++ n ∷ []) (ap length c.as_slice-end.ensures.value))
