use Rattle.lrup_model.specs.lemmas.PassLemmas.{known_stays}
use Rattle.lrup_model.proofs.laws.known_stays.Goals as goal

pub returns : goal.returns
returns c = known_stays
