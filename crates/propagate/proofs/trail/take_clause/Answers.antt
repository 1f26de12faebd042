use Rattle.lrup_model.specs.CallerView.{clip_clause}
use Rattle.lrup_model.specs.lemmas.PassLemmas.{known_follows}
use Rattle.propagate.proofs.trail.take_clause.Goals as goal

pub returns-then-not-take_pair-clause-no : goal.returns-then-not-take_pair-clause-no
returns-then-not-take_pair-clause-no g c = λ no.
    let view = g.M.ClauseMap.caller_view c.args.map.now in
    let d = clip_clause view c.args.clip.now in
    let once = (known_follows view c.args.clip.now c.requires.follow c.requires.known).0.each_once in
    let at = rw c.loop-i.invariant.stays at c.pair-first.ensures.first in
    let at' = rw c.loop-i.invariant.stays at c.pair-first.ensures.second in
    c.take_pair.ensures.no c.args.marks.now d c.loop-i.i once at at' c.loop-i.invariant.taken c.if-not-take_pair.true

pub returns-then-not-take_pair-clause-event : goal.returns-then-not-take_pair-clause-event
returns-then-not-take_pair-clause-event g c = g.met.M.ClauseMap.moves_append _ _ _ _ _ c.loop-i.invariant.event c.pair-first.ensures.event

pub loop-i-preserved : goal.loop-i-preserved
loop-i-preserved g c =
    let view = g.M.ClauseMap.caller_view c.args.map.now in
    let d = clip_clause view c.args.clip.now in
    let at = rw c.loop-i.invariant.stays at c.pair-first.ensures.first in
    let at' = rw c.loop-i.invariant.stays at c.pair-first.ensures.second in
    record {
      taken = c.take_pair.ensures.yes c.args.marks.now d c.loop-i.i at at' c.loop-i.invariant.taken c.if-not-take_pair.false;
      event = g.met.M.ClauseMap.moves_append _ _ _ _ _ c.loop-i.invariant.event c.pair-first.ensures.event;
      stays = rw c.pair-first.ensures.stays c.loop-i.invariant.stays;
    }
