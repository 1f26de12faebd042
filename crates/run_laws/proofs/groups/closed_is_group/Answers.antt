use Rattle.run_laws.proofs.GroupLemmas.{closed_is_group as lemma}
use Rattle.run_laws.proofs.groups.closed_is_group.Goals as goal

pub returns : goal.returns
returns c = lemma c.cited_fetched.ensures
