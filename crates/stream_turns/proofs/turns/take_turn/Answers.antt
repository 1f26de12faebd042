use Rattle.std.proofs.Common.{ap, arith}
use Rattle.lrup_model.specs.Layout.{LayoutValue}
use Rattle.stream_check.specs.Readings.{readers_view}
use Rattle.stream_turns.proofs.TurnsLemmas.{going_at, ready_at, serial_more, serial_past}
use Rattle.stream_turns.proofs.turns.take_turn.Goals as goal

pub turn_at_desk-requires-clause-stream : goal.turn_at_desk-requires-clause-stream
turn_at_desk-requires-clause-stream g c =
    let runs = c.requires.running.3 in
    (omega arith, omega (arith, c.requires.within, runs.count, ap (λ (p : LayoutValue). p.streams) runs.map_is.layout))

pub turn_at_desk-requires-clause-ready : goal.turn_at_desk-requires-clause-ready
turn_at_desk-requires-clause-ready g c = ready_at (readers_view g.R.Source) c.args.i
    c.args.map.now c.args.workers.now c.args.i c.index-workers-i-2.result c.requires.running c.requires.within

pub turn_at_desk-requires-clause-going : goal.turn_at_desk-requires-clause-going
turn_at_desk-requires-clause-going g c =
    going_at (readers_view g.R.Source) c.args.workers.now c.args.i c.index-workers-i.result
    c.index-workers-i-2.result c.is_over.result c.requires.within c.is_over.ensures c.if-is_over.false

pub returns-clause-step : goal.returns-clause-step
returns-clause-step g c f run_params entries runs =
    let turn = c.turn_at_desk.ensures in
    let going = going_at (readers_view g.R.Source) c.args.workers.now c.args.i
    c.index-workers-i.result c.index-workers-i-2.result c.is_over.result c.requires.within c.is_over.ensures c.if-is_over.false in
    serial_more (readers_view g.R.Source) c.ready_beside.ensures f run_params entries c.args.map.now
    c.turn_at_desk.new.map c.args.workers.now c.args.i c.index-workers-i-2.result c.turn_at_desk.new.worker turn.holds.0
    c.requires.within going turn.holds.1 turn.holds.2 turn.holds.3 turn.ready turn.params runs

pub returns-then-is_over-clause-step : goal.returns-then-is_over-clause-step
returns-then-is_over-clause-step g c f run_params entries runs =
    let finished = c.is_over.ensures.0 c.if-is_over.true in
    serial_past (readers_view g.R.Source) f run_params entries c.args.map.now c.args.workers.now
    c.args.i c.index-workers-i.result c.requires.within finished runs

pub returns-clause-finished : goal.returns-clause-finished
returns-clause-finished g c = λ none. absurd (cc)
