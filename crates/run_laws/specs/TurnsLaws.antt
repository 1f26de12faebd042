-- Laws of runs on one thread, whose order of lines takes the streams in turn. Each is the contract
-- of a function in a module of laws.
use Rattle.std.specs.Prelude.{◌≡◌, ℕ, true, List, map, Some}
use Rattle.std.specs.List.{flat_map}
use Rattle.lrup_model.specs.Formula.{Cnf, IsCnf}
use Rattle.lrup_model.specs.Layout.{Fits}
use Rattle.lrup_text.specs.Lines.{line_text}
use Rattle.stream_check.specs.declared.report.Report.{Report}
use Rattle.stream_check.specs.Excuses.{CutOff}
use Rattle.stream_check.specs.Closed.{IsOfStream}
use Rattle.stream_check.specs.Streams.{InputObservation, RunParamsValue}
use Rattle.stream_check.specs.Turns.{IsRoundRobin, IsOrderedRoundRobin}
use Rattle.run_laws.specs.Groups.{IsRun, NoneExcused}
use Rattle.run_laws.specs.Valid.{valid_report}
use Rattle.run_laws.specs.Valid.{Step}
use Rattle.run_laws.specs.Together.{IsValidOrder, lines_by}

-- Two runs of one formula on one thread, with the same parameters, have the same reports if their
-- readers have the same bytes at the start, unless memory ran out or a read failed.
abbrev pub BytesDecide : Type 0
BytesDecide =
    (f : Cnf) (run_params : RunParamsValue) (observed other_observed : List InputObservation)
    (reports other_reports : List Report)
    → ((s : ℕ) (observation other : InputObservation)
    → IsOfStream observed s observation → IsOfStream other_observed s other
    → (whole : List ℕ) × (observation.entry ≡ Some whole) × (other.entry ≡ Some whole))
    → (a : IsRun f run_params observed reports)
    (b : IsRun f run_params other_observed other_reports)
    → IsOrderedRoundRobin f run_params a.streams reports
    → IsOrderedRoundRobin f run_params b.streams other_reports
    → NoneExcused (λ s. true) CutOff reports → NoneExcused (λ s. true) CutOff other_reports
    → reports ≡ other_reports

-- If the lines of streams have a valid order that takes the streams in turn, then, in a run on one
-- thread over the lines' texts, each stream ended with its valid report, unless memory ran out or a
-- read failed.
abbrev pub ValidRoundRobin : Type 0
ValidRoundRobin =
    (f : Cnf) (run_params : RunParamsValue) (steps : List Step) (observed : List InputObservation)
    (reports : List Report) (s : ℕ) (report : Report)
    → IsCnf f → Fits run_params.layout f
    → IsValidOrder f run_params.layout steps → IsRoundRobin (map (λ step. step.stream) steps)
    → ((t : ℕ) (observation : InputObservation) → IsOfStream observed t observation
    → observation.entry ≡ Some (flat_map line_text (lines_by t steps)))
    → (run : IsRun f run_params observed reports)
    → IsOrderedRoundRobin f run_params run.streams reports
    → NoneExcused (λ s. true) CutOff reports
    → IsOfStream reports s report → report ≡ valid_report run_params s (lines_by s steps)
