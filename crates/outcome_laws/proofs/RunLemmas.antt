-- A run under a cube, and the same run without a cube.
use Rattle.std.proofs.Common.{◌≡◌, ◌-◌, ℕ, Bool, true, List, [], map, ap, subst, ◌∙◌}
use Rattle.std.specs.Prelude.{option_map}
use Rattle.std.proofs.lemmas.Option.{slice_get-map}
use Rattle.lrup_model.specs.Event.{History}
use Rattle.lrup_model.specs.Formula.{Cnf}
use Rattle.stream_check.specs.declared.report.Report.{Report}
use Rattle.stream_check.specs.StreamParams.{StreamParams}
use Rattle.stream_check.specs.Closed.{IsOfStream}
use Rattle.stream_check.specs.lemmas.EachLemmas.{each_map}
use Rattle.stream_check.specs.SequentialConsistency.{AreJudgedIn}
use Rattle.stream_check.specs.Streams.{Stream, InputObservation, JudgesStream, RunParamsValue, stream_params}
use Rattle.run_laws.specs.Groups.{IsRun}
use Rattle.run_laws.specs.GroupLaws.{SameBytesAgree}
use Rattle.outcome_laws.specs.Outcomes.{bare_params, bare_report}
use Rattle.outcome_laws.specs.Laws.{CubeIsIrrelevant, SameBytesSameReport}

judges_bare : CubeIsIrrelevant → (c : StreamParams) (stream : Stream) (blocks : List History) (report : Report)
    → JudgesStream c stream blocks report → JudgesStream (bare_params c) stream blocks (bare_report report)
judges_bare law c stream blocks report judged = λ end its. law c stream.bytes end blocks report (judged end its)

-- the parameters of a run with the empty cube
abbrev pub bare_run_params : RunParamsValue → RunParamsValue
bare_run_params run_params = record { layout = run_params.layout; cube = []; tries = run_params.tries }

judged_bare : CubeIsIrrelevant
    → (run_params : RunParamsValue) (set : ℕ → Bool) (h : History) (s : ℕ) (streams : List Stream) (reports : List Report)
    → AreJudgedIn run_params set h s streams reports → AreJudgedIn (bare_run_params run_params) set h s streams (map bare_report reports)
judged_bare law run_params set h s streams reports judged =
    each_map _ bare_report s streams reports judged (λ t stream report j member.
    let by = j member in (by.0, by.1, judges_bare law (stream_params run_params t) stream by.0 report by.2))

run_bare : CubeIsIrrelevant → (f : Cnf) (run_params : RunParamsValue) (observed : List InputObservation) (reports : List Report)
    → IsRun f run_params observed reports → IsRun f (bare_run_params run_params) observed (map bare_report reports)
run_bare law f run_params observed reports a = record {
  streams = a.streams;
  match_inputs = a.match_inputs;
  count = a.count;
  history = a.history;
  legal = a.legal;
  judged = judged_bare law run_params (λ s. true) a.history 1 a.streams reports a.judged;
}

at_bare : (reports : List Report) (s : ℕ) (report : Report) → IsOfStream reports s report
    → IsOfStream (map bare_report reports) s (bare_report report)
at_bare reports s report at = (at.0, slice_get-map bare_report reports (s - 1) ∙ ap (option_map bare_report) at.1)

same_run_params : (run_params other : RunParamsValue) → other.layout ≡ run_params.layout → other.tries ≡ run_params.tries
    → bare_run_params other ≡ bare_run_params run_params
same_run_params run_params other layout tries =
    ap (λ p. record { layout = p; cube = []; tries = other.tries }) layout
    ∙ ap (λ (n : ℕ). record { layout = run_params.layout; cube = []; tries = n }) tries

pub same_bytes_same_report : CubeIsIrrelevant → SameBytesAgree → SameBytesSameReport
same_bytes_same_report law agree f run_params other_run_params s whole known other_observed observation other_observation reports
    other_reports report other
    fits layout tries cites a b here entry there is_known says too fine good =
    let mine = run_bare law f run_params known reports a in
    let theirs = subst (λ (t : RunParamsValue). IsRun f t other_observed (map bare_report other_reports))
    (same_run_params run_params other_run_params layout tries) (run_bare law f other_run_params other_observed other_reports b) in
    let same : bare_report report ≡ bare_report other =
    agree f (bare_run_params run_params) s whole known other_observed observation other_observation (map bare_report reports)
    (map bare_report other_reports)
    (bare_report report) (bare_report other) fits cites mine theirs here entry there is_known (at_bare reports s report says)
    (at_bare other_reports s other too)
    fine good in
    record {
      added = ap (λ (r : Report). r.added) same;
      deleted = ap (λ (r : Report). r.deleted) same;
      empty = ap (λ (r : Report). r.empty) same;
      ending = ap (λ (r : Report). r.ending) same;
    }
