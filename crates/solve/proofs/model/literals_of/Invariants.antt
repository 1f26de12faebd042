use Rattle.std.specs.List.{AllByRecursion}
use Rattle.lrup_model.specs.Literal.{IsLiteral}
use Rattle.solve.proofs.model.literals_of.Given as goal

abbrev pub invariant-loop-positive : goal.invariant-loop-positive
invariant-loop-positive l = AllByRecursion (IsLiteral l.vars) l.literals.items
