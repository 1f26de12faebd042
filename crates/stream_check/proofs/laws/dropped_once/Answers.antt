use Rattle.stream_check.proofs.StoppedLemmas.{dropped_once as lemma}
use Rattle.stream_check.proofs.laws.dropped_once.Goals as goal

pub returns : goal.returns
returns c = lemma c.bytes_begin_with_one_line.ensures
