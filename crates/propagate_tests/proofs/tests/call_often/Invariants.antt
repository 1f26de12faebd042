use Rattle.std.proofs.Common.{◌≡◌}
use Rattle.propagate_tests.proofs.tests.call_often.Given as goal

abbrev pub invariant-loop : goal.invariant-loop
invariant-loop g l = record {
  marks : l.marks.vars ≡ 3;
  formula : (g.M.ClauseMap.caller_view l.map).caller.formula.vars ≡ 3;
}
