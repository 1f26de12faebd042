-- A stream at work: its reader, its checker, and the bytes that were read and aren't checked yet
-- (this project's own).
use Rattle.std.specs.Prelude.{◌≡◌, ◌≤◌, ◌<◌, ◌++◌, ℕ, Bool, false, List, [], length, Option, None, Some}
use Rattle.std.specs.Io.KnownBytes.{Consumes}
use Rattle.lrup_model.specs.Event.{History}
use Rattle.stream_check.specs.declared.report.Ending.{Ending}
use Rattle.stream_check.specs.CheckerValue.{report_of_tally, CheckerValue}
use Rattle.stream_check.specs.Checker.{checker_state}
use Rattle.stream_check.specs.Reaching.{ReachesState}
use Rattle.lrup_text.specs.ReadOut.{SourceView}
use Rattle.lrup_text.specs.Reads.{Gave}
use Rattle.stream_check.specs.Readings.{IsStreamOf}
use Rattle.stream_check.specs.Streams.{Stream, JudgesStream, RunParamsValue, stream_params}
use Rattle.stream_check.specs.Dropping.{HasDropped}

-- the reader, the bytes that were read and aren't checked yet, and the checker
pub record WorkerValue (S : Type 0) : Type 0 where
  pub reader : S
  pub unread : List ℕ
  pub checker : CheckerValue

abbrev pub WorkerInvariantBy : {S : Type 0} → SourceView S → Option Ending → S → WorkerValue S → ℕ
    → List History → Type 0
WorkerInvariantBy {S} view None first worker free blocks =
    (bytes : List ℕ) × Consumes (view.left first) (view.left worker.reader) (bytes ++ worker.unread)
    × Gave S view.reads first (bytes ++ worker.unread) worker.reader
    × ReachesState worker.checker.params bytes blocks (checker_state worker.checker free)
WorkerInvariantBy {S} view (Some ending) first worker free blocks =
    (stream : Stream) × IsStreamOf view first worker.reader stream
    × JudgesStream worker.checker.params stream blocks
    (report_of_tally worker.checker.tally ending)
    × HasDropped worker.checker.params stream.bytes blocks
    (report_of_tally worker.checker.tally ending) worker.checker.dropped

-- The invariant of a worker with this room left, whose reader was `first` before any read. If the
-- worker is unfinished, the bytes checked so far and their events lead to its checker's state. If
-- it is finished, its checker's report judges the stream, and the stream dropped what the checker
-- dropped.
abbrev pub WorkerInvariant : {S : Type 0} → SourceView S → S → WorkerValue S → ℕ
    → List History → Type 0
WorkerInvariant view first worker free blocks =
    WorkerInvariantBy view worker.checker.ending first worker free blocks

-- after any earlier blocks, these further blocks lead from the old worker to the new one
abbrev pub WorkerStep : {S : Type 0} → SourceView S → WorkerValue S → ℕ → List History
    → WorkerValue S → ℕ → Type 0
WorkerStep {S} view old room blocks new left =
    (first : S) (before : List History) → WorkerInvariant view first old room before
    → WorkerInvariant view first new left (before ++ blocks)

-- the blocks of a turn: exactly one, or at most one if the worker is then finished
abbrev pub AreBlocksOfTurn : Option Ending → List History → Type 0
AreBlocksOfTurn None blocks = length blocks ≡ 1
AreBlocksOfTurn (Some ending) blocks = length blocks ≤ 1

-- a worker has a buffer, with its unread bytes between two indices, and its reader hasn't failed
-- while the worker is unfinished
pub record IsWorker (has_failed : Bool) (size from to : ℕ) (ending : Option Ending) : Type 0 where
  pub some : 0 < size
  pub order : from ≤ to
  pub within : to ≤ size
  pub running : ending ≡ None → has_failed ≡ false

-- a worker of this stream before its first byte, with this reader
pub record IsStarted {S : Type 0} (view : SourceView S) (run_params : RunParamsValue)
    (s : ℕ) (first : S)
    (worker : WorkerValue S) : Type 0 where
  pub params : worker.checker.params ≡ stream_params run_params s
  pub last : worker.checker.last ≡ run_params.layout.clauses
  pub ending : worker.checker.ending ≡ None
  pub holds : WorkerInvariant view first worker run_params.layout.room []
