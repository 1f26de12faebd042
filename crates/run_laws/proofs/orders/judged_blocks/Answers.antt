use Rattle.run_laws.proofs.JudgedLemmas.{judged_blocks as lemma}
use Rattle.run_laws.proofs.orders.judged_blocks.Goals as goal

pub returns : goal.returns
returns c = lemma c.early_events.ensures c.vacant_tries_again.ensures
