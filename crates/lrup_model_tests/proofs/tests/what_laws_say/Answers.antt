use Rattle.std.proofs.Common.{◌∙◌, ap, inl, negsuc, refl, [], ◌∷◌}
use Rattle.lrup_model.specs.Event.{History}
use Rattle.lrup_model.specs.State.{state}
use Rattle.test_support.specs.Worked.{calls, four, fourth, one_line, third, unit}
use Rattle.lrup_model_tests.proofs.tests.what_laws_say.Goals as goal

pub returns-clause-unit : goal.returns-clause-unit
returns-clause-unit c =
    (c.clauses_follow.ensures four one_line calls 5 unit c.four_is_a_formula.ensures c.calls_are_legal.ensures.legal.events refl).1

pub returns-clause-empty : goal.returns-clause-empty
returns-clause-empty c =
    let follows = c.clauses_follow.ensures four one_line calls in
    let cnf = c.four_is_a_formula.ensures in
    let legal = c.calls_are_legal.ensures.legal.events in
    c.propagation_sound.ensures four [] (unit ∷ third ∷ fourth ∷ [])
    (follows 5 unit cnf legal refl, (follows 3 third cnf legal refl, (follows 4 fourth cnf legal refl, tt)))
    c.hints_are_judged.ensures.empty

pub returns-clause-under : goal.returns-clause-under
returns-clause-under c =
    let legal = c.calls_are_legal.ensures.legal.events in
    let follows = c.clauses_follow.ensures four one_line calls 5 unit c.four_is_a_formula.ensures legal refl in
    c.within_refutes.ensures four unit (negsuc 1 ∷ []) follows (inl refl, tt)

pub returns-clause-own : goal.returns-clause-own
returns-clause-own c =
    λ h legal none. c.own_calls_decide.ensures four one_line h 1 5 legal.events refl ∙ ap (λ (g : History). state four g 5) none
