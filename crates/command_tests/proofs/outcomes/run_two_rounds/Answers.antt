use Rattle.std.proofs.Common.{inl, inr}
use Rattle.command_tests.specs.Outcomes.{two_rounds}
use Rattle.command_tests.proofs.outcomes.run_two_rounds.Goals as goal

pub returns : goal.returns
returns g c files =
    elim (c.outcome_of_valid_rounds.ensures 2 two_rounds 1 1 _ _ _ _ (c.two_rounds_are_valid.ensures files) c.command.ensures.ends) [
      | inl is ↦ inl is
      | inr excused ↦ inr (_, _, excused)
    ]
