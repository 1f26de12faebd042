use Rattle.checkpoint.proofs.LiveLemmas.{Found}
use Rattle.checkpoint.proofs.live.live_clauses.Given as goal

abbrev pub invariant-loop-before : goal.invariant-loop-before
invariant-loop-before g l =
    let view = g.M.ClauseMap.caller_view in
    Found (g.K.Wanted.wants l.wanted) (view l.fn.map) (view l.map) (g.M.ClauseMap.moves l.fn.map l.map) l.before l.clips.items
