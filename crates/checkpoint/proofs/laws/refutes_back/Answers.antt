use Rattle.checkpoint.proofs.EntailsLemmas.{refutes_back}
use Rattle.checkpoint.proofs.laws.refutes_back.Goals as goal

pub returns : goal.returns
returns c = refutes_back
