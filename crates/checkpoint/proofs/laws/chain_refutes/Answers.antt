use Rattle.checkpoint.proofs.EntailsLemmas.{chain_refutes}
use Rattle.checkpoint.proofs.laws.chain_refutes.Goals as goal

pub returns : goal.returns
returns c = chain_refutes
