use Rattle.std.proofs.Common.{arith, ◌+◌, ◌*◌}
use Rattle.std.proofs.lemmas.Option.{slice_get_past}
use Rattle.lrup_model.specs.CallerView.{clip_clause}
use Rattle.lrup_model.proofs.clause_map.ClauseMap.pair.Goals as goal

pub returns-then-k-len-clause-event : goal.returns-then-k-len-clause-event
returns-then-k-len-clause-event g c =
    g.met.Self.ClauseMap.moves_append _ _ _ _ _ c.literal-first.ensures.event c.literal.ensures.event

pub returns-else-k-len-clause-second : goal.returns-else-k-len-clause-second
returns-else-k-len-clause-second g c =
    let text = clip_clause (g.Self.ClauseMap.caller_view c.args.self.now) c.args.clip.now in
    slice_get_past text (2 * c.args.i + 1) (grind (arith, c.requires.known.len))
