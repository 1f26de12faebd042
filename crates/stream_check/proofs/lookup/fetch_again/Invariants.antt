use Rattle.std.specs.Prelude.{replicate}
use Rattle.lrup_model.specs.Event.{fetch, vacant}
use Rattle.stream_check.proofs.lookup.fetch_again.Given as goal

abbrev pub invariant-loop-before : goal.invariant-loop-before
invariant-loop-before g l =
    g.M.ClauseMap.moves l.initial.map l.map (replicate l.before (fetch (g.M.ClauseMap.caller_view l.initial.map).caller.stream l.id vacant))
