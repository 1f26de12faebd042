use Rattle.lrup_model.specs.lemmas.CubeLemmas.{within_refutes}
use Rattle.lrup_model.proofs.laws.within_refutes.Goals as goal

pub returns : goal.returns
returns c = within_refutes
