use Rattle.std.proofs.Common.{rules, ◌∙◌}
use Rattle.clause_store.proofs.RestLemmas.{rests}
use Rattle.clause_store.proofs.store.Store.retire.Goals as goal

pub invariant_of-pass : goal.invariant_of-pass
invariant_of-pass c =
    let calls = c.withdraw.ensures.calls in
    rests c.pass.inside.seat c.withdraw.new.seat c.pass.inside.stream c.pass.invariant.stream_is calls.moves.caller calls.fair
    (c.withdraw.ensures.draft ∙ c.pass.invariant.draft) calls.within

pub returns-clause-calls : goal.returns-clause-calls
returns-clause-calls c = search rules

pub returns-clause-done : goal.returns-clause-done
returns-clause-done c = search rules
