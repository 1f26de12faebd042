use Rattle.std.proofs.Common.{◌≡◌}
use Rattle.propagate_tests.proofs.tests.try_hints.Given as goal

abbrev pub invariant-loop-id : goal.invariant-loop-id
invariant-loop-id g l =
    let place = g.M.ClauseMap.caller_view in
    record {
      marks : l.marks.vars ≡ 3;
      formula : (place l.map).caller.formula.vars ≡ 3;
    }
