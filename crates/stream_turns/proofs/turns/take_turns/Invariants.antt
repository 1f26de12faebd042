use Rattle.stream_check.specs.Readings.{readers_view}
use Rattle.stream_turns.specs.internal.Turns.{SerialStep}
use Rattle.stream_turns.proofs.turns.take_turns.Given as goal

abbrev pub invariant-loop : goal.invariant-loop
invariant-loop g l =
    SerialStep (readers_view g.R.Source) 0 l.initial.map l.initial.workers 0 l.map l.workers
