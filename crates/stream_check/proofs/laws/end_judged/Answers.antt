use Rattle.stream_check.proofs.ReachingLemmas.{end_judged as lemma}
use Rattle.stream_check.proofs.laws.end_judged.Goals as goal

pub returns : goal.returns
returns c = lemma
