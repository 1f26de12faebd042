use Rattle.std.proofs.Common.{rules, ◌∙◌}
use Rattle.clause_store.proofs.RestLemmas.{rests}
use Rattle.clause_store.proofs.store.Store.fetch.Goals as goal

pub invariant_of-pass : goal.invariant_of-pass
invariant_of-pass c =
    let calls = c.look-word.ensures.calls in
    rests c.pass.inside.seat c.look-word.new.seat c.pass.inside.stream c.pass.invariant.stream_is calls.moves.caller calls.fair
    (c.look-word.ensures.draft ∙ c.pass.invariant.draft) calls.within

pub returns-clause-calls : goal.returns-clause-calls
returns-clause-calls c = search rules

pub returns-clause-fetched : goal.returns-clause-fetched
returns-clause-fetched c = search rules
