use Rattle.std.proofs.lemmas.Result.{err_from_is_err_and}
use Rattle.stream_check.specs.Verdicts.{Good, Bad}
use Rattle.stream_check.specs.internal.Checking.{IsFetch}
use Rattle.stream_check.specs.internal.CheckerInside.{context_at}
use Rattle.stream_check.specs.lemmas.EventLemmas.{import_all}
use Rattle.stream_check.proofs.AddLemmas.{room_stays}
use Rattle.stream_check.proofs.LineLemmas.{ready_fetches, takes_import, stops_import}
use Rattle.stream_check.proofs.line.take_import.Goals as goal

pub returns-in_err-import-clause-taken : goal.returns-in_err-import-clause-taken
returns-in_err-import-clause-taken g c =
    let p = g.M.ClauseMap.caller_view c.args.map.now in
    let q = g.M.ClauseMap.caller_view c.import.new.map in
    let judged = c.in_err-import.ensures.judged in
    let given = err_from_is_err_and c.from_residual.result c.from_residual.ensures.1 in
    rw (given.1, given.2)
    (judged.0, judged.1, stops_import c.args.state.now p.room q.room c.args.id c.args.lits.now judged.0 c.in_err-import.field-0.0 judged.2)

pub returns-in_err-import-clause-ready : goal.returns-in_err-import-clause-ready
returns-in_err-import-clause-ready g c =
    let p = g.M.ClauseMap.caller_view c.args.map.now in
    let q = g.M.ClauseMap.caller_view c.import.new.map in
    let judged = c.in_err-import.ensures.judged in
    ready_fetches c.args.state.now p q judged.0
    (g.met.M.ClauseMap.moves_are_step c.args.map.now c.import.new.map judged.0 judged.1)
    (import_all c.args.state.now.params IsFetch (λ h r. tt) (context_at c.args.state.now p.room) c.args.id c.args.lits.now judged.0
    (Bad 0 c.in_err-import.field-0.0) judged.2) c.requires.ready

pub returns-clause-taken : goal.returns-clause-taken
returns-clause-taken g c =
    let old = c.args.state.now in
    let p = g.M.ClauseMap.caller_view c.args.map.now in
    let q = g.M.ClauseMap.caller_view c.import.new.map in
    let judged = c.in_ok-import.ensures.judged in
    let room = room_stays p q judged.0 (g.met.M.ClauseMap.moves_are_step c.args.map.now c.import.new.map judged.0 judged.1)
    (import_all old.params IsFetch (λ h r. tt) (context_at old p.room) c.args.id c.args.lits.now judged.0 Good judged.2) in
    rw c.count_line.ensures
    (judged.0, judged.1, takes_import old p.room q.room c.args.id c.args.lits.now judged.0 room judged.2)

pub returns-clause-ready : goal.returns-clause-ready
returns-clause-ready g c =
    let old = c.args.state.now in
    let p = g.M.ClauseMap.caller_view c.args.map.now in
    let q = g.M.ClauseMap.caller_view c.import.new.map in
    let judged = c.in_ok-import.ensures.judged in
    let ready = ready_fetches old p q judged.0
    (g.met.M.ClauseMap.moves_are_step c.args.map.now c.import.new.map judged.0 judged.1)
    (import_all old.params IsFetch (λ h r. tt) (context_at old p.room) c.args.id c.args.lits.now judged.0 Good judged.2)
    c.requires.ready in
    rw c.count_line.ensures (record { at = ready.at; vacant = ready.vacant })
