use Rattle.std.proofs.Common.{◌∙◌, subst}
use Rattle.std.proofs.lemmas.Bool.{eqb-true}
use Rattle.command_tests.proofs.ChainLemmas.{two_refute_under}
use Rattle.command_tests.proofs.Views.{content, has_failed, left, reading}
use Rattle.command_tests.specs.Outcomes.{AreUnsatisfiableTexts}
use Rattle.command_tests.proofs.outcomes.refute_under_in_two_runs.Goals as goal

pub returns : goal.returns
returns g c eight =
    let saved = c.in-Some.ensures in
    let second = rw (eqb-true c.command-last.result 8 eight) at c.command-last.ensures.ends in
    subst (AreUnsatisfiableTexts c.args.assumed.now) saved.3
    (two_refute_under left content reading has_failed _ _ _ _ _ _ _ _ saved.4
    (c.new-others.ensures.formula ∙ c.in-Ok.ensures.cases.0 ∙ c.last.ensures) c.outcomes_refute_under.ensures
    c.one_formula.ensures _ c.new-others.ensures.next second)
