use Rattle.dimacs.proofs.UniqueLemmas.{one_fault}
use Rattle.dimacs.proofs.laws.one_fault.Goals as goal

pub returns : goal.returns
returns c = one_fault
