use Rattle.run_laws.proofs.OrderLemmas.{lines_ordered as lemma}
use Rattle.run_laws.proofs.orders.lines_ordered.Goals as goal

pub returns : goal.returns
returns c = lemma
