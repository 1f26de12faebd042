use Rattle.stream_check.proofs.FindingLemmas.{good_follows as lemma}
use Rattle.stream_check.proofs.laws.good_follows.Goals as goal

pub returns : goal.returns
returns c = lemma
