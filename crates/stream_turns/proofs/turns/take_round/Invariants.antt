use Rattle.std.proofs.Common.{◌≡◌, ◌<◌, ℕ, false}
use Rattle.stream_check.specs.Readings.{readers_view}
use Rattle.stream_turns.specs.internal.Turns.{SerialStep, IsFinishedAt}
use Rattle.stream_turns.proofs.turns.take_round.Given as goal

abbrev pub invariant-loop-i : goal.invariant-loop-i
invariant-loop-i g l = record {
  runs : SerialStep (readers_view g.R.Source) 0 l.initial.map l.initial.workers l.i l.map l.workers;
  finished : l.going ≡ false → (l.workers ≡ l.initial.workers) × ((k : ℕ) → k < l.i → IsFinishedAt l.workers k);
}
