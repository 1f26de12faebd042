use Rattle.checkpoint.proofs.EntailsLemmas.{entails_onward}
use Rattle.checkpoint.proofs.laws.entails_onward.Goals as goal

pub returns : goal.returns
returns c = entails_onward
