use Rattle.std.proofs.Common.{◌≡◌, [], take}
use Rattle.lrup_model.specs.CallerView.{clip_clause}
use Rattle.checkpoint.proofs.next.spell.Given as goal

abbrev pub invariant-loop-k : goal.invariant-loop-k
invariant-loop-k g l =
    let view = g.M.ClauseMap.caller_view in
    record {
      items : l.clause.items ≡ take l.k (clip_clause (view l.fn.map) l.clip);
      event : g.M.ClauseMap.moves l.fn.map l.map [];
      stays : view l.map ≡ view l.fn.map;
    }
