use Rattle.dimacs.proofs.LawLemmas.{formula_or_fault}
use Rattle.dimacs.proofs.laws.formula_or_fault.Goals as goal

pub returns : goal.returns
returns c = formula_or_fault
