use Rattle.run_laws.proofs.PremiseLemmas.{shared_stays as lemma}
use Rattle.run_laws.proofs.orders.shared_stays.Goals as goal

pub returns : goal.returns
returns c = lemma c.cited_fetched.ensures c.deleted_retired.ensures
