use Rattle.std.proofs.Common.{◌≡◌}
use Rattle.propagate_tests.proofs.tests.formula_of_pairs.Given as goal

abbrev pub invariant-loop-one : goal.invariant-loop-one
invariant-loop-one g l = l.formula.vars ≡ 3
