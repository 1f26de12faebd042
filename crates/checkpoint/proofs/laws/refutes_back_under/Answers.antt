use Rattle.checkpoint.proofs.EntailsLemmas.{refutes_back_under}
use Rattle.checkpoint.proofs.laws.refutes_back_under.Goals as goal

pub returns : goal.returns
returns c = refutes_back_under
