use Rattle.lrup_model.specs.lemmas.EntailmentLemmas.{propagation_sound}
use Rattle.lrup_model.proofs.laws.propagation_sound.Goals as goal

pub returns : goal.returns
returns c = propagation_sound
