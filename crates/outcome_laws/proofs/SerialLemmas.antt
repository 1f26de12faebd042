-- Runs on one thread.
use Rattle.std.proofs.Common.{◌≡◌, ◌⊎◌, ℕ, List, Some, inl, inr, refl, sym, ap, subst, ◌∙◌}
use Rattle.lrup_model.specs.Cube.{CubeValue}
use Rattle.lrup_model.specs.Formula.{Cnf}
use Rattle.lrup_model.specs.Layout.{LayoutValue}
use Rattle.stream_check.specs.declared.report.Ending.{Ending}
use Rattle.stream_check.specs.declared.report.Ending.TheVariants as endings
use Rattle.stream_check.specs.declared.report.Report.{Report}
use Rattle.stream_check.specs.Excuses.{CutOff, IsExcused}
use Rattle.stream_check.specs.Turns.{IsOrderedRoundRobin}
use Rattle.stream_check.specs.Closed.{IsOfStream}
use Rattle.stream_check.specs.Streams.{InputObservation, RunParamsValue}
use Rattle.run_laws.specs.Groups.{IsRun}
use Rattle.run_laws.specs.TurnsLaws.{BytesDecide}
use Rattle.run_outcome.specs.Outcomes.{verdict_of}
use Rattle.command_line.specs.declared.sizes.Sizes.{Sizes}
use Rattle.run_files.specs.Files.{FilesView}
use Rattle.outcome_laws.specs.Outcomes.{layout_in}
use Rattle.outcome_laws.specs.Serial.{SerialOutcomesAgree}
use Rattle.outcome_laws.proofs.CheckLemmas.{turns_of, entry_at, path_at, run_of, observed_of}
use Rattle.outcome_laws.proofs.OutcomeLemmas.{OneFormula, first_check, first_text}

-- a run whose lines have an order that takes the streams in turn
abbrev IsRunInTurns : Cnf → RunParamsValue → List InputObservation → List Report → Type 0
IsRunInTurns f run_params known reports = (run : IsRun f run_params known reports) × IsOrderedRoundRobin f run_params run.streams reports

pub serial_outcomes_agree : OneFormula → BytesDecide → (files : FilesView) (others : FilesView) → SerialOutcomesAgree files others
serial_outcomes_agree one_formula decide files others given other_given cube other_cube round other were others_were ask cubes fine good =
    let formulas : other.formula ≡ round.formula =
    one_formula ask.text other.formula round.formula (first_text others other_given other_cube other others_were ask.text ask.same_formula)
    (first_text files given cube round were ask.text ask.formula) in
    let layout = layout_in round.formula round.sizes in
    let layouts : layout_in other.formula other.sizes ≡ layout =
    ap (λ (z : Sizes). layout_in other.formula z) (others_were.rounds.sizes_are ∙ ask.sizes ∙ sym were.rounds.sizes_are)
    ∙ ap (λ (f : Cnf). layout_in f round.sizes) formulas in
    let mine = first_check files given cube round were in
    let theirs = first_check others other_given other_cube other others_were in
    let same_run_params : theirs.run_params ≡ mine.run_params =
    ap (λ (p : LayoutValue). record { layout = p; cube = other_cube; tries = other_given.tries }) layouts
    ∙ ap (λ (c : CubeValue). record { layout = layout; cube = c; tries = other_given.tries }) cubes
    ∙ ap (λ (n : ℕ). record { layout = layout; cube = cube; tries = n }) ask.tries in
    let observed = observed_of files.its.reading mine in
    let other_observed = observed_of others.its.reading theirs in
    let in_turns : IsRunInTurns round.formula mine.run_params other_observed other.reports =
    subst (λ (t : RunParamsValue). IsRunInTurns round.formula t other_observed other.reports) same_run_params
    (subst (λ (g : Cnf). IsRunInTurns g theirs.run_params other_observed other.reports) formulas
    (run_of others.its.reading theirs, turns_of others.its.reading theirs ask.too)) in
    let bytes : (s : ℕ) (observation another : InputObservation) → IsOfStream observed s observation → IsOfStream other_observed s another
    → (whole : List ℕ) × (observation.entry ≡ Some whole) × (another.entry ≡ Some whole) =
    λ s observation another at there.
    let path = path_at files.its.reading mine s observation at in
    let other_path = path_at others.its.reading theirs s another there in
    let both = ask.streams s path.0 other_path.0 path.1 other_path.1 in (
      both.0,
      entry_at files.its.reading mine s observation path.0 both.0 at path.1 both.1,
      entry_at others.its.reading theirs s another other_path.0 both.0 there other_path.1 both.2,
    ) in
    let same : round.reports ≡ other.reports =
    decide round.formula mine.run_params observed other_observed round.reports other.reports bytes (run_of files.its.reading mine)
    in_turns.0 (turns_of files.its.reading mine ask.serial) in_turns.1 fine good in
    (same, round.checked.is_verdict ∙ ap verdict_of same ∙ sym other.checked.is_verdict)

-- Valid proofs on one thread

by_ending : (ending : Ending) (report : Report) → report.ending ≡ ending
    → IsExcused CutOff report ⊎ ¬ IsExcused CutOff report
by_ending endings.Ended report is = inr (λ cut. elim cut.1 [
  | inl memory ↦ let no : endings.Ended ≡ endings.Memory cut.0 = sym is ∙ memory in cc
  | inr failed ↦ let no : endings.Ended ≡ endings.ReadFailed cut.0 = sym is ∙ failed in cc
])
by_ending (endings.Bad line fault) report is = inr (λ cut. elim cut.1 [
  | inl memory ↦ let no : endings.Bad line fault ≡ endings.Memory cut.0 = sym is ∙ memory in cc
  | inr failed ↦ let no : endings.Bad line fault ≡ endings.ReadFailed cut.0 = sym is ∙ failed in cc
])
by_ending (endings.ReadFailed line) report is = inl (line, inr is)
by_ending (endings.Memory line) report is = inl (line, inl is)

-- a report says that its stream was cut off, or doesn't
pub said_of : (report : Report) → IsExcused CutOff report ⊎ ¬ IsExcused CutOff report
said_of report = by_ending report.ending report refl
