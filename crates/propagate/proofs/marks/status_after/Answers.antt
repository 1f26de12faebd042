use Rattle.std.proofs.Common.{◌+◌, ◌*◌, ◌∙◌}
use Rattle.lrup_model.specs.CallerView.{clip_clause}
use Rattle.lrup_model.specs.lemmas.PassLemmas.{known_follows}
use Rattle.propagate.specs.declared.marks.ClauseStatus.TheVariants.{One}
use Rattle.propagate.proofs.MarkLemmas.{IsLiteral-known}
use Rattle.propagate.proofs.StatusLemmas.{HasStatus-pair, HasStatus-open_pair}
use Rattle.propagate.proofs.marks.status_after.Goals as goal

pub are_false-requires-clause-first : goal.are_false-requires-clause-first
are_false-requires-clause-first g c =
    let view = g.M.ClauseMap.caller_view c.args.map.now in
    let at = rw c.loop-i.invariant.stays at c.pair-first.ensures.first in
    IsLiteral-known c.args.falses.now.vars view c.args.clip.now
    (2 * c.loop-i.i) c.pair-first.result.0 c.requires.follow c.requires.known c.requires.variables at

pub are_false-requires-clause-second : goal.are_false-requires-clause-second
are_false-requires-clause-second g c = λ l same.
    let view = g.M.ClauseMap.caller_view c.args.map.now in
    let at = rw c.loop-i.invariant.stays at c.pair-first.ensures.second in
    IsLiteral-known c.args.falses.now.vars view c.args.clip.now
    (2 * c.loop-i.i + 1) l c.requires.follow c.requires.known c.requires.variables (at ∙ same)

pub returns-then-not-are_false-clause-status : goal.returns-then-not-are_false-clause-status
returns-then-not-are_false-clause-status g c =
    let view = g.M.ClauseMap.caller_view c.args.map.now in
    let d = clip_clause view c.args.clip.now in
    let n = c.args.falses.now.literals in
    let at = rw c.loop-i.invariant.stays at c.pair-first.ensures.first in
    let at' = rw c.loop-i.invariant.stays at c.pair-first.ensures.second in
    let once = (known_follows view c.args.clip.now c.requires.follow c.requires.known).0.each_once in
    HasStatus-open_pair n d c.loop-i.i c.pair-first.result.0 c.pair-first.result.1 c.args.lit once at at' c.loop-i.invariant.status
    (c.are_false.ensures.no c.if-not-are_false.true)

pub returns-then-not-are_false-clause-event : goal.returns-then-not-are_false-clause-event
returns-then-not-are_false-clause-event g c = g.met.M.ClauseMap.moves_append _ _ _ _ _ c.loop-i.invariant.event c.pair-first.ensures.event

pub loop-i-preserved : goal.loop-i-preserved
loop-i-preserved g c =
    let view = g.M.ClauseMap.caller_view c.args.map.now in
    let d = clip_clause view c.args.clip.now in
    let n = c.args.falses.now.literals in
    let at = rw c.loop-i.invariant.stays at c.pair-first.ensures.first in
    let at' = rw c.loop-i.invariant.stays at c.pair-first.ensures.second in
    record {
      status = HasStatus-pair n d c.loop-i.i c.pair-first.result.0 c.pair-first.result.1 (One c.args.lit) at at'
          (c.are_false.ensures.yes c.if-not-are_false.false) c.loop-i.invariant.status;
      event = g.met.M.ClauseMap.moves_append _ _ _ _ _ c.loop-i.invariant.event c.pair-first.ensures.event;
      stays = rw c.pair-first.ensures.stays c.loop-i.invariant.stays;
    }
