use Rattle.run_laws.proofs.StreamLemmas.{all_closed as lemma}
use Rattle.run_laws.proofs.orders.all_closed.Goals as goal

pub returns : goal.returns
returns c = lemma c.every_stream_is_cut.ensures
