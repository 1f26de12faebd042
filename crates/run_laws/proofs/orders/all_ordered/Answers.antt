use Rattle.run_laws.proofs.VerdictLemmas.{all_ordered as lemma}
use Rattle.run_laws.proofs.orders.all_ordered.Goals as goal

pub returns : goal.returns
returns c = lemma c.closed_ordered.ensures c.all_closed.ensures
