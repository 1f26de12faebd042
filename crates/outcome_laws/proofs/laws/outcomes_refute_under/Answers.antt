use Rattle.outcome_laws.proofs.RefutingLemmas.{outcomes_refute_under as lemma}
use Rattle.outcome_laws.proofs.laws.outcomes_refute_under.Goals as goal

pub returns : goal.returns
returns g c = lemma c.entails_itself.ensures c.entails_onward.ensures c.refutes_back_under.ensures c.files_refute_under.ensures _
