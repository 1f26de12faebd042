use Rattle.checkpoint.proofs.EntailsLemmas.{entails_itself}
use Rattle.checkpoint.proofs.laws.entails_itself.Goals as goal

pub returns : goal.returns
returns c = entails_itself
