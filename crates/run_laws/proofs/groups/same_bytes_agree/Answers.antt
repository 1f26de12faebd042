use Rattle.run_laws.proofs.RunLemmas.{same_bytes_agree as lemma}
use Rattle.run_laws.proofs.groups.same_bytes_agree.Goals as goal

pub returns : goal.returns
returns c = lemma c.beginnings_within.ensures c.closed_is_group.ensures c.alone_decides.ensures c.decided_before_failure.ensures
