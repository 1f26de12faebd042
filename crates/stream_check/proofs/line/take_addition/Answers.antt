use Rattle.std.proofs.Common.{◌≡◌, ◌∙◌, refl, ap}
use Rattle.std.proofs.lemmas.Result.{err_from_is_err_and}
use Rattle.lrup_model.specs.Distinct.{distinct}
use Rattle.stream_check.specs.StreamContext.{is_within}
use Rattle.stream_check.specs.Verdicts.{Bad}
use Rattle.stream_check.specs.internal.Checking.{IsFetch}
use Rattle.stream_check.specs.internal.CheckerInside.{StreamStateValue, context_at}
use Rattle.stream_check.specs.lemmas.EventLemmas.{addition_all}
use Rattle.stream_check.proofs.LineLemmas.{ready_fetches, ready_publish, room_publish, takes_addition, stops_addition}
use Rattle.stream_check.proofs.line.take_addition.Goals as goal

pub returns-in_err-add-clause-taken : goal.returns-in_err-add-clause-taken
returns-in_err-add-clause-taken g c =
    let p = g.M.ClauseMap.caller_view c.args.map.now in
    let q = g.M.ClauseMap.caller_view c.add.new.map in
    let judged = c.in_err-add.ensures.judged in
    let given = err_from_is_err_and c.from_residual.result c.from_residual.ensures.1 in
    rw (given.1, given.2) (
      judged.0,
      judged.1,
      stops_addition c.args.state.now p.room q.room c.args.id c.args.lits.now c.args.hints.now judged.0 c.in_err-add.field-0.0 judged.2,
    )

pub returns-in_err-add-clause-ready : goal.returns-in_err-add-clause-ready
returns-in_err-add-clause-ready g c =
    let p = g.M.ClauseMap.caller_view c.args.map.now in
    let q = g.M.ClauseMap.caller_view c.add.new.map in
    let judged = c.in_err-add.ensures.judged in
    ready_fetches c.args.state.now p q judged.0
    (g.met.M.ClauseMap.moves_are_step c.args.map.now c.add.new.map judged.0 judged.1)
    (addition_all c.args.state.now.params IsFetch (λ h r. tt) c.args.id c.args.lits.now (Bad 0 c.in_err-add.field-0.0)
    (λ good. absurd (cc)) (context_at c.args.state.now p.room) c.args.hints.now judged.0 judged.2) c.requires.ready

pub returns-clause-taken : goal.returns-clause-taken
returns-clause-taken g c =
    let old = c.args.state.now in
    let p = g.M.ClauseMap.caller_view c.args.map.now in
    let q = g.M.ClauseMap.caller_view c.add.new.map in
    let judged = c.in_ok-add.ensures.judged in
    let room = room_publish old p q p.room judged.0 c.args.id c.args.lits.now c.args.hints.now c.requires.ready.at
    (g.met.M.ClauseMap.moves_are_step c.args.map.now c.add.new.map judged.0 judged.1) judged.2 in
    let within : c.refutes-within.result ≡ is_within old.params.cube (distinct c.args.lits.now) =
    c.refutes-within.ensures ∙ ap (λ (v : StreamStateValue). is_within v.params.cube c.clause.result.now) c.state.view_is
    ∙ ap (is_within old.params.cube) (c.clause.ensures ∙ c.in_ok-add.ensures.clause) in
    rw c.count_addition.ensures (
      judged.0,
      judged.1,
      takes_addition old p.room q.room c.args.id c.args.lits.now c.args.hints.now judged.0 c.is_empty.result c.refutes-within.result
          c.is_empty.ensures within room judged.2,
    )

pub returns-clause-ready : goal.returns-clause-ready
returns-clause-ready g c =
    let p = g.M.ClauseMap.caller_view c.args.map.now in
    let q = g.M.ClauseMap.caller_view c.add.new.map in
    let judged = c.in_ok-add.ensures.judged in
    rw c.count_addition.ensures (ready_publish c.args.state.now _ p q p.room judged.0 c.args.id c.args.lits.now c.args.hints.now
    (g.met.M.ClauseMap.moves_are_step c.args.map.now c.add.new.map judged.0 judged.1) judged.2 refl refl c.requires.ready)
