use Rattle.std.proofs.lemmas.Result.{err_from_is_err_and}
use Rattle.stream_check.proofs.LineLemmas.{ready_retires, room_retires, takes_deletion, stops_deletion}
use Rattle.stream_check.proofs.line.take_deletion.Goals as goal

pub returns-in_err-delete-clause-taken : goal.returns-in_err-delete-clause-taken
returns-in_err-delete-clause-taken g c =
    let old = c.args.state.now in
    let mid = c.delete.new.state in
    let p = g.M.ClauseMap.caller_view c.args.map.now in
    let q = g.M.ClauseMap.caller_view c.delete.new.map in
    let deleted = c.in_err-delete.ensures.deleted in
    let given = err_from_is_err_and c.from_residual.result c.from_residual.ensures.1 in
    rw (given.1, given.2) (
      deleted.0,
      deleted.1,
      λ lead. stops_deletion old mid p.room q.room lead c.args.ids.now deleted.0 deleted.3.0 c.in_err-delete.field-0.0 c.delete.ensures.kept
          deleted.3.1 deleted.3.2,
    )

pub returns-in_err-delete-clause-ready : goal.returns-in_err-delete-clause-ready
returns-in_err-delete-clause-ready g c =
    let old = c.args.state.now in
    let mid = c.delete.new.state in
    let p = g.M.ClauseMap.caller_view c.args.map.now in
    let q = g.M.ClauseMap.caller_view c.delete.new.map in
    let deleted = c.in_err-delete.ensures.deleted in
    ready_retires old mid p q deleted.0 (g.met.M.ClauseMap.moves_are_step c.args.map.now c.delete.new.map deleted.0 deleted.1) deleted.2
    c.delete.ensures.kept c.requires.ready

pub returns-clause-taken : goal.returns-clause-taken
returns-clause-taken g c =
    let old = c.args.state.now in
    let mid = c.delete.new.state in
    let p = g.M.ClauseMap.caller_view c.args.map.now in
    let q = g.M.ClauseMap.caller_view c.delete.new.map in
    let deleted = c.in_ok-delete.ensures.deleted in
    let room = room_retires p q deleted.0 (g.met.M.ClauseMap.moves_are_step c.args.map.now c.delete.new.map deleted.0 deleted.1)
    deleted.2 in
    rw c.count_line.ensures (
      deleted.0,
      deleted.1,
      λ lead. takes_deletion old mid p.room q.room lead c.args.ids.now deleted.0 deleted.3.0 c.delete.ensures.kept deleted.3.1 room
          deleted.3.2,
    )

pub returns-clause-ready : goal.returns-clause-ready
returns-clause-ready g c =
    let old = c.args.state.now in
    let mid = c.delete.new.state in
    let p = g.M.ClauseMap.caller_view c.args.map.now in
    let q = g.M.ClauseMap.caller_view c.delete.new.map in
    let deleted = c.in_ok-delete.ensures.deleted in
    let ready = ready_retires old mid p q deleted.0 (g.met.M.ClauseMap.moves_are_step c.args.map.now c.delete.new.map deleted.0 deleted.1)
    deleted.2 c.delete.ensures.kept c.requires.ready in
    rw c.count_line.ensures (record { at = ready.at; vacant = ready.vacant })
