use Rattle.run_laws.proofs.ValidCites.{valid_empty as lemma}
use Rattle.run_laws.proofs.valid.valid_empty.Goals as goal

pub returns : goal.returns
returns c = lemma
