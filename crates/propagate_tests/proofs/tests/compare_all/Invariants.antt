use Rattle.std.proofs.Common.{◌≡◌}
use Rattle.propagate_tests.proofs.tests.compare_all.Given as goal

abbrev pub invariant-loop-row : goal.invariant-loop-row
invariant-loop-row g l =
    let place = g.M.ClauseMap.caller_view in
    record {
      marks : l.marks.vars ≡ 3;
      formula : (place l.map).caller.formula.vars ≡ 3;
    }
