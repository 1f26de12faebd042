-- What a run is, and its groups of streams: what holds for a group's reports no matter what the
-- streams outside the group do (this project's own).
use Rattle.std.specs.Prelude.{◌≡◌, ◌+◌, ◌==◌, ◌++◌, ℕ, Bool, true, IsTrue, List, [], ◌∷◌, length, Some, MatchOption, if◌then◌else◌}
use Rattle.std.specs.List.{AllByRecursion, AllZip}
use Rattle.lrup_model.specs.Formula.{Cnf}
use Rattle.lrup_model.specs.Layout.{LayoutValue}
use Rattle.lrup_model.specs.Event.{History, stream_of}
use Rattle.lrup_model.specs.History.{IsLegal}
use Rattle.stream_check.specs.declared.report.Report.{Report}
use Rattle.lrup_text.specs.declared.device.StreamEnd.{StreamEnd}
use Rattle.stream_check.specs.Excuses.{Excuse, OutOfMemory, IsExcused}
use Rattle.stream_check.specs.Closed.{IsOfStream, CiteWithin, IsClosed}
use Rattle.stream_check.specs.Streams.{Stream, InputObservation, RunParamsValue, MatchesInput}
use Rattle.stream_check.specs.SequentialConsistency.{AreJudgedIn}

-- Runs

-- A run as far as its first `many` streams go: these streams match what is observed of their
-- readers, and one legal history judges each by its own events, as its report says.
pub record IsRunOfFirst (many : ℕ) (formula : Cnf) (run_params : RunParamsValue)
    (observed : List InputObservation)
    (reports : List Report) : Type 0 where
  pub streams : List Stream
  pub match_inputs : AllZip MatchesInput observed streams
  pub count : length streams ≡ many
  pub history : History
  pub legal : IsLegal formula run_params.layout history
  pub judged : AreJudgedIn run_params (λ s. true) history 1 streams reports

-- A run: `IsRunOfFirst` with all streams of the layout.
abbrev pub IsRun : Cnf → RunParamsValue → List InputObservation → List Report → Type 0
IsRun formula run_params observed reports =
    IsRunOfFirst run_params.layout.streams formula run_params observed reports

-- the set that contains only this stream
abbrev pub one : ℕ → ℕ → Bool
one s = λ t. t == s

-- Closed sets

-- the bytes that each reader of the set's streams has at the start are known, and no line in them
-- cites an identity of a stream outside the set
abbrev pub AreClosedReaders : LayoutValue → (ℕ → Bool) → List InputObservation → Type 0
AreClosedReaders layout set observed =
    (s : ℕ) (observation : InputObservation) → IsTrue (set s) → IsOfStream observed s observation
    → (bytes : List ℕ) × (observation.entry ≡ Some bytes) × CiteWithin layout set bytes

-- Readings

-- the stream is a reading of these bytes with this end: it has all of them and the end, or a prefix
-- after which no more was needed
abbrev pub IsReadingOf : List ℕ → StreamEnd → Stream → Type 0
IsReadingOf whole end stream =
    MatchOption stream.end ((more : List ℕ) × (whole ≡ stream.bytes ++ more))
    (λ known. (whole ≡ stream.bytes) × (known ≡ end))

-- Groups

-- no report of a stream of the set has this excuse
abbrev pub NoneExcused : (ℕ → Bool) → Excuse → List Report → Type 0
NoneExcused set excuse reports = (s : ℕ) (report : Report) → IsTrue (set s)
    → IsOfStream reports s report → ¬ IsExcused excuse report

-- The set of streams is judged without the other streams: a legal history that has only events of
-- the set's streams judges each of them as its report says, and no report says that memory ran out.
pub record IsGroup (formula : Cnf) (run_params : RunParamsValue) (set : ℕ → Bool)
    (streams : List Stream)
    (reports : List Report) : Type 0 where
  pub history : History
  pub members : AllByRecursion (λ event. IsTrue (set (stream_of event))) history
  pub legal : IsLegal formula run_params.layout history
  pub judged : AreJudgedIn run_params set history 1 streams reports
  pub memory : NoneExcused set OutOfMemory reports

-- a report that stream s may have on its own, as a group of this one stream, with these bytes and
-- this end
pub record IsReportAlone (formula : Cnf) (run_params : RunParamsValue) (s : ℕ) (whole : List ℕ)
    (end : StreamEnd) (report : Report) : Type 0 where
  pub streams : List Stream
  pub reports : List Report
  pub stream : Stream
  pub alone : IsGroup formula run_params (one s) streams reports
  pub at : IsOfStream streams s stream
  pub reads : IsReadingOf whole end stream
  pub says : IsOfStream reports s report

-- The run's groups are isolated. Each closed set of the run's streams is a group if none of its
-- reports says that memory ran out. And if a stream is a closed set by itself, and its report
-- doesn't say that memory ran out, then this is the only report that the stream may have on its
-- own, for any bytes and end of which it is a reading.
pub record AreIsolated {formula : Cnf} {run_params : RunParamsValue}
    {observed : List InputObservation} {reports : List Report}
    (run : IsRun formula run_params observed reports) : Type 0 where
  pub groups : (set : ℕ → Bool) → IsClosed run_params.layout set run.streams
      → NoneExcused set OutOfMemory reports → IsGroup formula run_params set run.streams reports
  pub alone : (s : ℕ) (stream : Stream) (report : Report)
      → IsOfStream run.streams s stream → IsOfStream reports s report
      → IsClosed run_params.layout (one s) run.streams → ¬ IsExcused OutOfMemory report
      → (whole : List ℕ) (end : StreamEnd) → IsReadingOf whole end stream
      → (other : Report) → IsReportAlone formula run_params s whole end other → other ≡ report

-- A run in which the other streams are empty

-- a list with an element for each stream, from stream s on; `x` replaces the elements that belong
-- to streams outside the set
abbrev pub with_others : {X : Type 0} → (ℕ → Bool) → X → ℕ → List X → List X
with_others set x s [] = []
with_others set x s (y ∷ ys) = (if set s then y else x) ∷ with_others set x (s + 1) ys
