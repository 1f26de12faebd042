use Rattle.std.proofs.Common.{◌≡◌, ◌*◌, take, []}
use Rattle.lrup_model.specs.CallerView.{clip_clause}
use Rattle.propagate.specs.internal.Trail.{AreTaken}
use Rattle.propagate.proofs.trail.take_clause.Given as goal

abbrev pub invariant-loop-i : goal.invariant-loop-i
invariant-loop-i g l = record {
  taken : AreTaken l.fn.marks l.marks (take (2 * l.i) (clip_clause (g.M.ClauseMap.caller_view l.fn.map) l.clip));
  event : g.M.ClauseMap.moves l.fn.map l.map [];
  stays : g.M.ClauseMap.caller_view l.map ≡ g.M.ClauseMap.caller_view l.fn.map;
}
