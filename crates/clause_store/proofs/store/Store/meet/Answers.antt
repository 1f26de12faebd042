use Rattle.std.proofs.Common.{rules, ◌∙◌}
use Rattle.clause_store.proofs.RestLemmas.{rests}
use Rattle.clause_store.proofs.store.Store.meet.Goals as goal

pub invariant_of-first : goal.invariant_of-first
invariant_of-first c =
    let met = c.meet.ensures in
    rests c.first.inside.seat c.meet.new.first c.first.inside.stream c.first.invariant.stream_is met.meets.first.caller met.meets.fair
    (met.drafts.0 ∙ c.first.invariant.draft) met.within

pub invariant_of-second : goal.invariant_of-second
invariant_of-second c =
    let met = c.meet.ensures in
    rests c.second.inside.seat c.meet.new.second c.second.inside.stream c.second.invariant.stream_is met.meets.second.caller met.meets.fair'
    (met.drafts.1 ∙ c.second.invariant.draft) met.within_too

pub returns-clause-meets : goal.returns-clause-meets
returns-clause-meets c = search rules
