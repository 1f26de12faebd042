use Rattle.std.proofs.Common.{◌∙◌, subst}
use Rattle.std.proofs.lemmas.Bool.{eqb-true}
use Rattle.checkpoint.specs.Checkpoints.{IsUnsatisfiableText}
use Rattle.command_tests.proofs.ChainLemmas.{two_refute}
use Rattle.command_tests.proofs.Views.{content, has_failed, left, reading}
use Rattle.command_tests.proofs.outcomes.refute_in_two_runs.Goals as goal

pub returns : goal.returns
returns g c zero =
    let saved = c.in-Some.ensures in
    let second = rw (eqb-true c.command-last.result 0 zero) at c.command-last.ensures.ends in
    subst IsUnsatisfiableText saved.3
    (two_refute left content reading has_failed _ _ _ _ _ _ _ _ saved.4
    (c.new-others.ensures.formula ∙ c.in-Ok.ensures.cases.0 ∙ c.last.ensures) c.outcomes_refute.ensures second)
