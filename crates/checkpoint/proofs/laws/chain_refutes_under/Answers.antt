use Rattle.checkpoint.proofs.EntailsLemmas.{chain_refutes_under}
use Rattle.checkpoint.proofs.laws.chain_refutes_under.Goals as goal

pub returns : goal.returns
returns c = chain_refutes_under
