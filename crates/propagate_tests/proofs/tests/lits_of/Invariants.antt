use Rattle.std.specs.List.{AllByRecursion}
use Rattle.lrup_model.specs.Literal.{IsLiteral}
use Rattle.propagate_tests.proofs.tests.lits_of.Given as goal

abbrev pub invariant-loop-value : goal.invariant-loop-value
invariant-loop-value g l = AllByRecursion (IsLiteral 3) l.lits.items
