use Rattle.outcome_laws.proofs.RefutingLemmas.{outcomes_refute as lemma}
use Rattle.outcome_laws.proofs.laws.outcomes_refute.Goals as goal

pub returns : goal.returns
returns g c = lemma c.entails_itself.ensures c.entails_onward.ensures c.refutes_back.ensures c.files_refute.ensures _
