use Rattle.stream_check.proofs.ReadyLemmas.{ready_new as lemma}
use Rattle.stream_check.proofs.laws.ready_new.Goals as goal

pub returns : goal.returns
returns c = lemma
