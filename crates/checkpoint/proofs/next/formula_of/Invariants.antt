use Rattle.std.proofs.Common.{◌≡◌, [], take}
use Rattle.checkpoint.specs.Live.{entries_of}
use Rattle.checkpoint.specs.Printing.{printed}
use Rattle.checkpoint.proofs.next.formula_of.Given as goal

abbrev pub invariant-loop-clip : goal.invariant-loop-clip
invariant-loop-clip g l =
    let view = g.M.ClauseMap.caller_view in
    record {
      formula : l.formula ≡ printed l.vars (entries_of (view l.fn.map) (take l.clip-index l.clips));
      event : g.M.ClauseMap.moves l.fn.map l.map [];
      stays : view l.map ≡ view l.fn.map;
    }
