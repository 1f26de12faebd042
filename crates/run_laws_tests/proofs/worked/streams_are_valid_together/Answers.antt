use Rattle.run_laws_tests.proofs.WorkedLemmas.{shared_is_valid}
use Rattle.run_laws_tests.proofs.worked.streams_are_valid_together.Goals as goal

pub returns : goal.returns
returns c = shared_is_valid
