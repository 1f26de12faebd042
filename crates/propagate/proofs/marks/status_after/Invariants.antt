use Rattle.std.proofs.Common.{◌≡◌, ◌*◌, take, []}
use Rattle.lrup_model.specs.CallerView.{clip_clause}
use Rattle.lrup_model.specs.Propagation.{IsUnit}
use Rattle.propagate.proofs.marks.status_after.Given as goal

abbrev pub invariant-loop-i : goal.invariant-loop-i
invariant-loop-i g l = record {
  status : IsUnit l.falses.literals (take (2 * l.i) (clip_clause (g.M.ClauseMap.caller_view l.fn.map) l.clip)) l.lit;
  event : g.M.ClauseMap.moves l.fn.map l.map [];
  stays : g.M.ClauseMap.caller_view l.map ≡ g.M.ClauseMap.caller_view l.fn.map;
}
