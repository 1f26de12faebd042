use Rattle.std.proofs.Common.{◌+◌, ◌*◌, ◌∙◌, take, subst}
use Rattle.lrup_model.specs.CallerView.{clip_clause}
use Rattle.lrup_model.specs.lemmas.PassLemmas.{known_follows}
use Rattle.propagate.specs.internal.ClauseStatus.{HasStatus}
use Rattle.propagate.specs.declared.marks.ClauseStatus.TheVariants.{Nothing}
use Rattle.propagate.proofs.MarkLemmas.{IsLiteral-known}
use Rattle.propagate.proofs.StatusLemmas.{HasStatus-pair, HasStatus-whole}
use Rattle.propagate.proofs.marks.clause_status.Goals as goal

pub are_false-requires-clause-first : goal.are_false-requires-clause-first
are_false-requires-clause-first g c =
    let view = g.M.ClauseMap.caller_view c.args.map.now in
    let at = rw c.loop-i.invariant.stays at c.pair-first.ensures.first in
    IsLiteral-known c.args.falses.now.vars view c.args.clip.now
    (2 * c.loop-i.i) c.pair-first.result.0 c.requires.follow c.requires.known c.requires.variables at

pub are_false-requires-clause-second : goal.are_false-requires-clause-second
are_false-requires-clause-second g c = λ l same.
    let view = g.M.ClauseMap.caller_view c.args.map.now in
    let at = rw c.loop-i.invariant.stays at c.pair-first.ensures.second in
    IsLiteral-known c.args.falses.now.vars view c.args.clip.now
    (2 * c.loop-i.i + 1) l c.requires.follow c.requires.known c.requires.variables (at ∙ same)

pub status_after-requires-clause-status : goal.status_after-requires-clause-status
status_after-requires-clause-status g c =
    let view = g.M.ClauseMap.caller_view c.args.map.now in
    let d = clip_clause view c.args.clip.now in
    let n = c.args.falses.now.literals in
    let once = (known_follows view c.args.clip.now c.requires.follow c.requires.known).0.each_once in
    let at = rw c.loop-i.invariant.stays at c.pair-first.ensures.first in
    let at' = rw c.loop-i.invariant.stays at c.pair-first.ensures.second in
    let after = c.status_with_pair.ensures d c.loop-i.i once at at' c.loop-i.invariant.status in
    let unit = rw c.in-One.is at after in
    rw (c.pair-first.ensures.stays ∙ c.loop-i.invariant.stays) unit

pub returns-in-One-clause-event : goal.returns-in-One-clause-event
returns-in-One-clause-event g c =
    let before = g.met.M.ClauseMap.moves_append _ _ _ _ _ c.loop-i.invariant.event c.pair-first.ensures.event in
    g.met.M.ClauseMap.moves_append _ _ _ _ _ before c.status_after.ensures.event

pub returns-in-More-clause-status : goal.returns-in-More-clause-status
returns-in-More-clause-status g c =
    let view = g.M.ClauseMap.caller_view c.args.map.now in
    let d = clip_clause view c.args.clip.now in
    let n = c.args.falses.now.literals in
    let once = (known_follows view c.args.clip.now c.requires.follow c.requires.known).0.each_once in
    let at = rw c.loop-i.invariant.stays at c.pair-first.ensures.first in
    let at' = rw c.loop-i.invariant.stays at c.pair-first.ensures.second in
    let after = c.status_with_pair.ensures d c.loop-i.i once at at' c.loop-i.invariant.status in
    HasStatus-whole n d (2 * (c.loop-i.i + 1)) (subst (HasStatus n (take (2 * (c.loop-i.i + 1)) d)) c.in-More.is after)

pub returns-in-More-clause-event : goal.returns-in-More-clause-event
returns-in-More-clause-event g c = g.met.M.ClauseMap.moves_append _ _ _ _ _ c.loop-i.invariant.event c.pair-first.ensures.event

pub loop-i-preserved : goal.loop-i-preserved
loop-i-preserved g c =
    let view = g.M.ClauseMap.caller_view c.args.map.now in
    let d = clip_clause view c.args.clip.now in
    let n = c.args.falses.now.literals in
    let once = (known_follows view c.args.clip.now c.requires.follow c.requires.known).0.each_once in
    let at = rw c.loop-i.invariant.stays at c.pair-first.ensures.first in
    let at' = rw c.loop-i.invariant.stays at c.pair-first.ensures.second in
    let after = c.status_with_pair.ensures d c.loop-i.i once at at' c.loop-i.invariant.status in
    record {
      status = subst (HasStatus n (take (2 * (c.loop-i.i + 1)) d)) c.in-Nothing.is after;
      event = g.met.M.ClauseMap.moves_append _ _ _ _ _ c.loop-i.invariant.event c.pair-first.ensures.event;
      stays = rw c.pair-first.ensures.stays c.loop-i.invariant.stays;
    }

pub status_with_pair-requires-clause-first : goal.status_with_pair-requires-clause-first
status_with_pair-requires-clause-first g c =
    let view = g.M.ClauseMap.caller_view c.args.map.now in
    let at = rw c.loop-i.invariant.stays at c.pair-first.ensures.first in
    IsLiteral-known c.args.falses.now.vars view c.args.clip.now
    (2 * c.loop-i.i) c.pair-first.result.0 c.requires.follow c.requires.known c.requires.variables at

pub status_with_pair-requires-clause-second : goal.status_with_pair-requires-clause-second
status_with_pair-requires-clause-second g c = λ l same.
    let view = g.M.ClauseMap.caller_view c.args.map.now in
    let at = rw c.loop-i.invariant.stays at c.pair-first.ensures.second in
    IsLiteral-known c.args.falses.now.vars view c.args.clip.now
    (2 * c.loop-i.i + 1) l c.requires.follow c.requires.known c.requires.variables (at ∙ same)

pub loop-i-preserved-then-are_false : goal.loop-i-preserved-then-are_false
loop-i-preserved-then-are_false g c =
    let d = clip_clause (g.M.ClauseMap.caller_view c.args.map.now) c.args.clip.now in
    let at = rw c.loop-i.invariant.stays at c.pair-first.ensures.first in
    let at' = rw c.loop-i.invariant.stays at c.pair-first.ensures.second in
    record {
      status = HasStatus-pair c.args.falses.now.literals d c.loop-i.i c.pair-first.result.0 c.pair-first.result.1 Nothing at at'
          (c.are_false.ensures.yes c.if-are_false.true) c.loop-i.invariant.status;
      event = g.met.M.ClauseMap.moves_append _ _ _ _ _ c.loop-i.invariant.event c.pair-first.ensures.event;
      stays = rw c.pair-first.ensures.stays c.loop-i.invariant.stays;
    }
