use Rattle.stream_check.proofs.EventLemmas.{early_events as lemma}
use Rattle.stream_check.proofs.laws.early_events.Goals as goal

pub returns : goal.returns
returns c = lemma
