use Rattle.stream_check.proofs.ReadyLemmas.{ready_beside as lemma}
use Rattle.stream_check.proofs.laws.ready_beside.Goals as goal

pub returns : goal.returns
returns c = lemma
