use Rattle.stream_check.proofs.ReachingLemmas.{decided_before_failure as lemma}
use Rattle.stream_check.proofs.laws.decided_before_failure.Goals as goal

pub returns : goal.returns
returns c = lemma
