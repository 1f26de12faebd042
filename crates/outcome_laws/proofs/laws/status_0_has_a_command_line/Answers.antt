use Rattle.outcome_laws.proofs.StatusLemmas.{status_0}
use Rattle.outcome_laws.proofs.laws.status_0_has_a_command_line.Goals as goal

pub returns : goal.returns
returns g c = status_0 c.entails_itself.ensures c.entails_onward.ensures c.refutes_back.ensures _
