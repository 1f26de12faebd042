-- Valid proofs that cite one another: lines of several streams in an order in which each line is
-- valid, given what the lines before it leave to its stream; and the law that these streams aren't
-- blamed (this project's own). Some good lines have no such order: a checker also accepts the
-- deletion of another stream's clause that its owner has already deleted (the law `ValidInAnyRun`
-- covers those).
use Rattle.std.specs.Prelude.{◌≡◌, ◌⊎◌, ◌≤◌, ◌==◌, ◌++◌, ℕ, Bool, IsTrue, List, [], ◌∷◌, length, Some, if◌then◌else◌}
use Rattle.std.specs.List.{AllByRecursion, flat_map}
use Rattle.lrup_model.specs.Formula.{Cnf, IsCnf}
use Rattle.lrup_model.specs.Layout.{LayoutValue, Fits, IsStream}
use Rattle.lrup_text.specs.Lines.{StreamLine, IsWithinLimits, line_text}
use Rattle.stream_check.specs.declared.report.Report.{Report}
use Rattle.stream_check.specs.Excuses.{CutOff, Lacking, IsExcused, IsExcusedAt}
use Rattle.stream_check.specs.Closed.{IsOfStream}
use Rattle.stream_check.specs.Streams.{InputObservation, RunParamsValue, stream_params}
use Rattle.run_laws.specs.Groups.{IsRun}
use Rattle.run_laws.specs.Valid.{AreValidTogether, Step, SaysAtLeast, first_database, valid_report}

-- the lines of one stream, in order
abbrev pub lines_by : ℕ → List Step → List StreamLine
lines_by s [] = []
lines_by s (step ∷ steps) =
    if step.stream == s then step.line ∷ lines_by s steps else lines_by s steps

-- This order of lines shows that its streams are valid together: each line has a text within the
-- limits, and is valid.
pub record IsValidOrder (formula : Cnf) (layout : LayoutValue) (steps : List Step) : Type 0 where
  pub streams : AllByRecursion (λ step. IsStream layout step.stream) steps
  pub fits : AllByRecursion (λ step. IsWithinLimits step.line) steps
  pub valid : AreValidTogether layout (λ t. first_database formula layout) steps

-- at the start, the readers of the set's streams have the texts of these streams' lines, and maybe
-- more after the texts
abbrev pub HaveTexts : (ℕ → Bool) → List Step → List InputObservation → Type 0
HaveTexts set steps observed =
    (t : ℕ) (observation : InputObservation) → IsTrue (set t) → IsOfStream observed t observation
    → (more : List ℕ)
    × (observation.entry ≡ Some (flat_map line_text (lines_by t steps) ++ more))

-- If lines of a set of streams have a valid order, then in every run of these streams each stream's
-- report says at least what the report of its lines says, unless memory ran out or a read failed in
-- these lines, or one of them cites another stream's clause that wasn't there yet or was no longer
-- there. The streams outside the set, and what comes after the lines, make no difference.
abbrev pub TogetherBegins : Type 0
TogetherBegins = (formula : Cnf) (run_params : RunParamsValue) (set : ℕ → Bool) (steps : List Step)
    (observed : List InputObservation) (reports : List Report) (s : ℕ) (report : Report)
    → IsCnf formula → Fits run_params.layout formula → IsValidOrder formula run_params.layout steps
    → AllByRecursion (λ step. IsTrue (set step.stream)) steps
    → IsRun formula run_params observed reports → HaveTexts set steps observed
    → IsTrue (set s) → IsOfStream reports s report
    → SaysAtLeast report (valid_report run_params s (lines_by s steps))
    ⊎ ((line : ℕ) × (line ≤ length (lines_by s steps))
    × IsExcusedAt (Lacking (stream_params run_params s)) report line)

-- If lines of a set of streams have a valid order, and nothing comes after a stream's lines, the
-- stream ended with its valid report, unless memory ran out, or a read failed, or one of its lines
-- cites another stream's clause that wasn't there yet or was no longer there.
abbrev pub ValidTogether : Type 0
ValidTogether = (formula : Cnf) (run_params : RunParamsValue) (set : ℕ → Bool) (steps : List Step)
    (observed : List InputObservation) (reports : List Report) (s : ℕ)
    (observation : InputObservation) (report : Report)
    → IsCnf formula → Fits run_params.layout formula → IsValidOrder formula run_params.layout steps
    → AllByRecursion (λ step. IsTrue (set step.stream)) steps
    → IsRun formula run_params observed reports → HaveTexts set steps observed
    → IsTrue (set s) → IsOfStream observed s observation
    → observation.entry ≡ Some (flat_map line_text (lines_by s steps))
    → IsOfStream reports s report → ¬ IsExcused CutOff report
    → (report ≡ valid_report run_params s (lines_by s steps))
    ⊎ IsExcused (Lacking (stream_params run_params s)) report
