-- The streams of a run on one thread, between two turns (this project's own).
use Rattle.std.specs.Prelude.{◌≡◌, ◌+◌, ◌≤◌, ◌<◌, ℕ, true, List, length, map, None, Some, IsSome, IfSome, slice_get}
use Rattle.std.specs.List.{AllByRecursion, AllZip}
use Rattle.lrup_model.specs.Formula.{Cnf}
use Rattle.lrup_model.specs.Layout.{LayoutValue, IsStream}
use Rattle.lrup_model.specs.Event.{spent}
use Rattle.lrup_model.specs.State.{opening, run}
use Rattle.lrup_model.specs.History.{LegalFrom}
use Rattle.lrup_model.specs.Plain.{Plain, formula_of, plain_state, free_at, plain_caller_view}
use Rattle.stream_check.specs.declared.report.Ending.{Ending}
use Rattle.stream_check.specs.declared.report.Report.{Report}
use Rattle.stream_check.specs.CheckerValue.{report_of_tally}
use Rattle.stream_check.specs.Checker.{IsReadyAt}
use Rattle.stream_check.specs.Closed.{IsOfStream}
use Rattle.stream_check.specs.Each.{Each}
use Rattle.stream_check.specs.Streams.{Block, blocks_of, events_in, IsBlockWithin, RunParamsValue, stream_params}
use Rattle.stream_check.specs.Turns.{IsRoundRobin, line_count}
use Rattle.lrup_text.specs.ReadOut.{SourceView}
use Rattle.stream_turns.specs.internal.Working.{WorkerValue, WorkerInvariant, IsStarted}

-- the map is what the blocks' events leave, and the events are legal
pub record HasRun (run_formula : Cnf) (run_layout : LayoutValue) (blocks : List Block)
    (map : Plain) : Type 0 where
  pub layout : map.layout ≡ run_layout
  pub formula : formula_of map ≡ run_formula
  pub within : AllByRecursion (IsBlockWithin run_layout (λ s. true)) blocks
  pub legal : LegalFrom run_formula run_layout (opening run_formula) (events_in blocks)
  pub state : plain_state map ≡ run (opening run_formula) (events_in blocks)
  pub room : (s : ℕ) → IsStream run_layout s
      → free_at map s + spent s (events_in blocks) ≡ run_layout.room

-- the worker belongs to stream s, has reached its state through these blocks, and can be fed, given
-- the map
pub record IsWorking {S : Type 0} (view : SourceView S) (run_params : RunParamsValue)
    (blocks : List Block)
    (map : Plain) (s : ℕ) (first : S) (worker : WorkerValue S) : Type 0 where
  pub params : worker.checker.params ≡ stream_params run_params s
  pub holds : WorkerInvariant view first worker (free_at map s) (blocks_of s blocks)
  pub ready : IsReadyAt worker.checker (plain_caller_view map s)

-- `IsWorking` for each of these workers, the first of which belongs to stream s
abbrev pub AreWorking : {S : Type 0} → SourceView S → RunParamsValue → List Block → Plain
    → ℕ → List S
    → List (WorkerValue S) → Type 0
AreWorking view run_params blocks map s firsts workers =
    Each (IsWorking view run_params blocks map) s firsts workers

-- An order of lines after this many whole rounds and the turns of the first `taken` streams. No
-- stream has more lines than turns, an unfinished stream has a line for each turn, and the order
-- takes the streams in turn.
pub record IsInRound {S : Type 0} (rounds taken : ℕ) (order : List ℕ)
    (workers : List (WorkerValue S)) : Type 0 where
  pub before : (s : ℕ) → s ≤ taken → line_count s order ≤ rounds + 1
  pub following : (s : ℕ) → taken < s → line_count s order ≤ rounds
  pub going_before : (s : ℕ) (worker : WorkerValue S) → IsOfStream workers s worker
      → worker.checker.ending ≡ None → s ≤ taken → line_count s order ≡ rounds + 1
  pub going_later : (s : ℕ) (worker : WorkerValue S) → IsOfStream workers s worker
      → worker.checker.ending ≡ None → taken < s → line_count s order ≡ rounds
  pub turns : IsRoundRobin order

-- A run between two turns, when the first `taken` streams have had their turns in this round: its
-- map is what the blocks so far leave, and each worker is in the state to which its own blocks led.
pub record SerialInvariant {S : Type 0} (view : SourceView S) (formula : Cnf)
    (run_params : RunParamsValue)
    (firsts : List S) (taken : ℕ) (clauses : Plain)
    (workers : List (WorkerValue S)) : Type 0 where
  pub count : length workers ≡ run_params.layout.streams
  pub blocks : List Block
  pub map_is : HasRun formula run_params.layout blocks clauses
  pub workers_are : AreWorking view run_params blocks clauses 1 firsts workers
  pub rounds : ℕ
  pub in_round : IsInRound rounds taken (map (λ block. block.stream) blocks) workers

-- these are the map and the workers of a run with some formula, parameters and readers
abbrev pub IsInSerialRun : {S : Type 0} → SourceView S → ℕ → Plain → List (WorkerValue S) → Type 0
IsInSerialRun {S} view taken map workers =
    (formula : Cnf) × (run_params : RunParamsValue) × (firsts : List S)
    × SerialInvariant view formula run_params firsts taken map workers

-- if the earlier map and workers are those of a run, the later ones are those of the same run
abbrev pub SerialStep : {S : Type 0} → SourceView S → ℕ → Plain → List (WorkerValue S) → ℕ → Plain
    → List (WorkerValue S) → Type 0
SerialStep {S} view taken map workers next later after =
    (formula : Cnf) (run_params : RunParamsValue) (firsts : List S)
    → SerialInvariant view formula run_params firsts taken map workers
    → SerialInvariant view formula run_params firsts next later after

abbrev pub IsFinished : {S : Type 0} → WorkerValue S → Type 0
IsFinished worker = IsSome worker.checker.ending

abbrev pub AreFinished : {S : Type 0} → List (WorkerValue S) → Type 0
AreFinished workers = AllByRecursion IsFinished workers

-- the worker at this index in the list is finished
abbrev pub IsFinishedAt : {S : Type 0} → List (WorkerValue S) → ℕ → Type 0
IsFinishedAt workers place = IfSome (slice_get workers place) IsFinished

-- the workers of these streams, the first of which is stream s, before their first bytes
abbrev pub AreStarted : {S : Type 0} → SourceView S → RunParamsValue → ℕ → List S
    → List (WorkerValue S)
    → Type 0
AreStarted view run_params s firsts workers = Each (IsStarted view run_params) s firsts workers

-- the reports of finished workers
abbrev pub HaveReports : {S : Type 0} → List (WorkerValue S) → List Report → Type 0
HaveReports workers reports = AllZip (λ worker report. (ending : Ending)
    × (worker.checker.ending ≡ Some ending)
    × (report ≡ report_of_tally worker.checker.tally ending)) workers reports
