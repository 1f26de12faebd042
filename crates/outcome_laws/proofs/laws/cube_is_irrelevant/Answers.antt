use Rattle.outcome_laws.proofs.CubeLemmas.{cube_is_irrelevant as lemma}
use Rattle.outcome_laws.proofs.laws.cube_is_irrelevant.Goals as goal

pub returns : goal.returns
returns c = lemma
