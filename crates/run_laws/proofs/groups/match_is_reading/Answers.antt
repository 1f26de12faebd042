use Rattle.run_laws.proofs.RunLemmas.{match_is_reading as lemma}
use Rattle.run_laws.proofs.groups.match_is_reading.Goals as goal

pub returns : goal.returns
returns c = lemma
