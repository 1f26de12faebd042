use Rattle.dimacs.proofs.FormulaLemmas.{one_formula}
use Rattle.dimacs.proofs.laws.one_formula.Goals as goal

pub returns : goal.returns
returns c = one_formula
