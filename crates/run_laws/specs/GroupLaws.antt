-- Laws of groups of streams. Each is the contract of a function in a module of laws.
use Rattle.std.specs.Prelude.{◌≡◌, ◌++◌, ℕ, Bool, true, false, List, [], length, Some}
use Rattle.std.specs.List.{AllZip}
use Rattle.lrup_model.specs.Formula.{Cnf}
use Rattle.lrup_model.specs.Layout.{LayoutValue, Fits}
use Rattle.lrup_model.specs.Event.{History}
use Rattle.lrup_model.specs.History.{IsLegal}
use Rattle.stream_check.specs.declared.report.Report.{Report}
use Rattle.lrup_text.specs.declared.device.StreamEnd.{StreamEnd}
use Rattle.lrup_text.specs.declared.device.StreamEnd.TheVariants as stream_ends
use Rattle.stream_check.specs.Excuses.{CutOff, OutOfMemory, IsExcused}
use Rattle.stream_check.specs.declared.report.Ending.TheVariants as endings
use Rattle.stream_check.specs.Streams.{Stream, InputObservation, RunParamsValue, MatchesInput}
use Rattle.stream_check.specs.SequentialConsistency.{AreJudgedIn}
use Rattle.stream_check.specs.Closed.{IsOfStream, CiteWithin, IsClosed}
use Rattle.run_laws.specs.Groups.{one, AreClosedReaders, NoneExcused, IsGroup, AreIsolated, with_others, IsRun, IsReadingOf}

-- Closed sets

-- if no line in the bytes cites an identity of a stream outside a set, neither does any line in a
-- prefix of the bytes
abbrev pub BeginningsWithin : Type 0
BeginningsWithin = (p : LayoutValue) (set : ℕ → Bool) (bytes more : List ℕ)
    → CiteWithin p set (bytes ++ more) → CiteWithin p set bytes

-- a set is closed if no line in the bytes that its streams' readers have at the start cites an
-- identity of a stream outside the set
abbrev pub ReadersClosed : Type 0
ReadersClosed =
    (p : LayoutValue) (set : ℕ → Bool) (observed : List InputObservation) (streams : List Stream)
    → AllZip MatchesInput observed streams → AreClosedReaders p set observed
    → IsClosed p set streams

-- Groups

-- a closed set of streams that one legal history judges is a group, unless memory ran out
abbrev pub ClosedIsGroup : Type 0
ClosedIsGroup = (f : Cnf) (run_params : RunParamsValue) (set : ℕ → Bool) (h : History)
    (streams : List Stream) (reports : List Report)
    → Fits run_params.layout f → length streams ≡ run_params.layout.streams
    → IsLegal f run_params.layout h → AreJudgedIn run_params set h 1 streams reports
    → IsClosed run_params.layout set streams → NoneExcused set OutOfMemory reports
    → IsGroup f run_params set streams reports

-- A group is judged as in a run in which all other streams are empty: they have no bytes, and their
-- reports say that they ended.
abbrev pub OthersEmpty : Type 0
OthersEmpty = (f : Cnf) (run_params : RunParamsValue) (set : ℕ → Bool) (streams : List Stream)
    (reports : List Report)
    → IsGroup f run_params set streams reports
    → (h : History) × IsLegal f run_params.layout h
    × AreJudgedIn run_params (λ s. true) h 1
    (with_others {X = Stream} set
    (record { bytes = []; unneeded = []; end = Some stream_ends.Ended }) 1 streams)
    (with_others {X = Report} set
    (record { added = 0; deleted = 0; empty = false; within = false; ending = endings.Ended }) 1
    reports)

-- if a stream is a group by itself, at most one report is right for it, however much of it was read
abbrev pub AloneHasOneReport : Type 0
AloneHasOneReport =
    (f : Cnf) (run_params : RunParamsValue) (s : ℕ) (whole : List ℕ) (end : StreamEnd)
    (streams others : List Stream) (reports other_reports : List Report) (stream other : Stream)
    (report other_report : Report)
    → IsGroup f run_params (one s) streams reports
    → IsGroup f run_params (one s) others other_reports
    → IsOfStream streams s stream → IsOfStream others s other → IsReadingOf whole end stream
    → IsReadingOf whole end other
    → IsOfStream reports s report → IsOfStream other_reports s other_report → report ≡ other_report

-- Runs

-- the groups of every run are isolated
abbrev pub RunIsolated : Type 0
RunIsolated = (f : Cnf) (run_params : RunParamsValue) (observed : List InputObservation)
    (reports : List Report)
    → Fits run_params.layout f → (run : IsRun f run_params observed reports) → AreIsolated run

-- if a reader hasn't failed, its stream is a reading of the bytes that the reader had at the start,
-- with the end `Ended`
abbrev pub MatchIsReading : Type 0
MatchIsReading = (observed : List InputObservation) (streams : List Stream) (s : ℕ)
    (observation : InputObservation)
    (stream : Stream) (whole : List ℕ)
    → AllZip MatchesInput observed streams → IsOfStream observed s observation
    → IsOfStream streams s stream
    → observation.entry ≡ Some whole → observation.has_failed ≡ false
    → IsReadingOf whole stream_ends.Ended stream

-- In two runs of one formula with the same parameters, a stream that cites only its own clauses and
-- the formula's has the same report if both runs read the same bytes of it, with the same end,
-- unless memory ran out. The other streams and the use of threads make no difference.
abbrev pub SameReadingAgrees : Type 0
SameReadingAgrees =
    (f : Cnf) (run_params : RunParamsValue) (s : ℕ) (whole : List ℕ) (end : StreamEnd)
    (observed other_observed : List InputObservation) (reports other_reports : List Report)
    (stream other : Stream)
    (report other_report : Report)
    → Fits run_params.layout f → CiteWithin run_params.layout (one s) whole
    → (a : IsRun f run_params observed reports)
    (b : IsRun f run_params other_observed other_reports)
    → IsOfStream a.streams s stream → IsOfStream b.streams s other → IsReadingOf whole end stream
    → IsReadingOf whole end other
    → IsOfStream reports s report → IsOfStream other_reports s other_report
    → ¬ IsExcused OutOfMemory report → ¬ IsExcused OutOfMemory other_report → report ≡ other_report

-- In two runs of one formula with the same parameters, a stream that cites only its own clauses and
-- the formula's has the same report if both readers have the same bytes at the start, unless memory
-- ran out or a read failed.
abbrev pub SameBytesAgree : Type 0
SameBytesAgree = (f : Cnf) (run_params : RunParamsValue) (s : ℕ) (whole : List ℕ)
    (observed other_observed : List InputObservation)
    (observation other_observation : InputObservation)
    (reports other_reports : List Report)
    (report other_report : Report)
    → Fits run_params.layout f → CiteWithin run_params.layout (one s) whole
    → IsRun f run_params observed reports → IsRun f run_params other_observed other_reports
    → IsOfStream observed s observation → observation.entry ≡ Some whole
    → IsOfStream other_observed s other_observation → other_observation.entry ≡ Some whole
    → IsOfStream reports s report → IsOfStream other_reports s other_report
    → ¬ IsExcused CutOff report → ¬ IsExcused CutOff other_report → report ≡ other_report
