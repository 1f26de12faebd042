use Rattle.lrup_model.specs.lemmas.PassLemmas.{moves_are_step}
use Rattle.lrup_model.proofs.laws.pass_steps.Goals as goal

pub returns : goal.returns
returns c = moves_are_step
