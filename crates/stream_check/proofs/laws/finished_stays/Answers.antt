use Rattle.stream_check.proofs.ReachingLemmas.{finished_stays as lemma}
use Rattle.stream_check.proofs.laws.finished_stays.Goals as goal

pub returns : goal.returns
returns c = lemma
