use Rattle.std.proofs.Common.{◌≡◌}
use Rattle.propagate_tests.proofs.tests.try_rows.Given as goal

abbrev pub invariant-loop-ids : goal.invariant-loop-ids
invariant-loop-ids g l =
    let place = g.M.ClauseMap.caller_view in
    record {
      marks : l.marks.vars ≡ 3;
      formula : (place l.map).caller.formula.vars ≡ 3;
    }
