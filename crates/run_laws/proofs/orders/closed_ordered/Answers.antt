use Rattle.run_laws.proofs.StreamLemmas.{closed_ordered as lemma}
use Rattle.run_laws.proofs.orders.closed_ordered.Goals as goal

pub returns : goal.returns
returns c = lemma c.lines_ordered.ensures c.judged_blocks.ensures c.cited_fetched.ensures c.reduced_stream.ensures
