use Rattle.stream_check.proofs.EventLemmas.{vacant_tries_again as lemma}
use Rattle.stream_check.proofs.laws.vacant_tries_again.Goals as goal

pub returns : goal.returns
returns c = lemma
