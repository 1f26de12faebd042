use Rattle.run_laws.proofs.PremiseLemmas.{owners_alone_suffices as lemma}
use Rattle.run_laws.proofs.orders.owners_alone_suffices.Goals as goal

pub returns : goal.returns
returns c = lemma
