use Rattle.std.proofs.Common.{◌≡◌, ◌+◌, ℕ, length, refl, subst, arith}
use Rattle.stream_check.specs.Readings.{readers_view}
use Rattle.stream_turns.specs.internal.Turns.{SerialInvariant}
use Rattle.stream_turns.proofs.TurnsLemmas.{step_twice, finished_each, finished_more, serial_round, running_on}
use Rattle.stream_turns.proofs.turns.take_round.Goals as goal

pub take_turn-going-requires-clause-running : goal.take_turn-going-requires-clause-running
take_turn-going-requires-clause-running g c = running_on (readers_view g.R.Source) 0 c.loop-i.i
    c.args.map.now c.loop-i.map c.args.workers.now c.loop-i.workers c.requires.running c.loop-i.invariant.runs

pub loop-i-init : goal.loop-i-init
loop-i-init g c = record {
  runs = λ f run_params entries runs. runs;
  finished = λ none. (refl, λ k below. absurd (omega (arith, below)));
}

pub loop-i-preserved : goal.loop-i-preserved
loop-i-preserved g c =
    let now = c.loop-i in
    let turn = c.take_turn-going in
    record {
      runs = step_twice (readers_view g.R.Source) 0 now.i (now.i + 1) c.args.map.now now.map
          turn.new.map c.args.workers.now now.workers turn.new.workers now.invariant.runs turn.ensures.step;
      finished = λ none. finished_more (readers_view g.R.Source) now.i now.going turn.result
          c.args.workers.now now.workers turn.new.workers none now.invariant.finished turn.ensures.finished;
    }

pub returns-clause-step : goal.returns-clause-step
returns-clause-step g c f run_params firsts runs =
    let view = readers_view g.R.Source in
    let map = c.loop-i.map in
    let workers = c.loop-i.workers in
    let all : c.loop-i.i ≡ length workers = omega arith in
    serial_round view f run_params firsts map workers
    (subst (λ (k : ℕ). SerialInvariant view f run_params firsts k map workers) all (c.loop-i.invariant.runs f run_params firsts runs))

pub returns-clause-finished : goal.returns-clause-finished
returns-clause-finished g c none = let finished = c.loop-i.invariant.finished none in
    finished_each (readers_view g.R.Source) c.loop-i.workers (λ k below. finished.1 k (omega arith))
