use Rattle.stream_check.proofs.WithinLemmas.{counts_within as lemma}
use Rattle.stream_check.proofs.laws.counts_within.Goals as goal

pub returns : goal.returns
returns c = lemma
