use Rattle.run_laws.proofs.RunLemmas.{readers_closed as lemma}
use Rattle.run_laws.proofs.groups.readers_closed.Goals as goal

pub returns : goal.returns
returns c = lemma c.beginnings_within.ensures
