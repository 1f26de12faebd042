use Rattle.stream_check.proofs.ReducedLemmas.{reduced_stream as lemma}
use Rattle.stream_check.proofs.laws.reduced_stream.Goals as goal

pub returns : goal.returns
returns c = lemma
