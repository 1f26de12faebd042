use Rattle.run_laws.proofs.StreamLemmas.{run_serializable as lemma}
use Rattle.run_laws.proofs.orders.run_serializable.Goals as goal

pub returns : goal.returns
returns c = lemma c.closed_ordered.ensures c.all_ordered.ensures
