use Rattle.command_tests.proofs.AgreeLemmas.{turns_agree}
use Rattle.command_tests.proofs.Views.{content, has_failed, left, reading}
use Rattle.command_tests.proofs.outcomes.turns_agree.Goals as goal

pub returns : goal.returns
returns c same = turns_agree left content reading has_failed _ _ c.serial_outcomes_agree.ensures same
