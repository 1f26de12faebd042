-- Runs of the program in sequence.
use Rattle.std.proofs.Common.{◌≡◌, ℕ, Bool, true, false, List, [], ◌∷◌, Option, None, Some, refl, subst}
use Rattle.lrup_model.specs.Cube.{CubeValue, IsUnsatisfiableUnder}
use Rattle.lrup_model.specs.Entailment.{IsUnsatisfiable}
use Rattle.dimacs.specs.FormulaText.{IsFormulaText}
use Rattle.run_outcome.specs.declared.outcome.Verdict.{Verdict}
use Rattle.run_outcome.specs.declared.outcome.Verdict.TheVariants.{Unsatisfiable, UnsatisfiableUnder, Unknown}
use Rattle.checkpoint.specs.Checkpoints.{AreCheckpoints, FilesRefute, FilesRefuteUnder, IsUnsatisfiableText}
use Rattle.checkpoint.specs.Checkpoints.{IsUnsatisfiableTextUnder, last_file}
use Rattle.checkpoint.specs.Entails.{Entails, EntailsItself, EntailsOnward, RefutesBack, RefutesBackUnder}
use Rattle.checkpoint.specs.declared.saving.SaveFault.{SaveFault}
use Rattle.run_files.specs.Files.{FilesView}
use Rattle.command.specs.Commands.{report_status}
use Rattle.outcome_laws.specs.Refuting.{AreRuns, IsRunOn, OutcomesRefute, OutcomesRefuteUnder}
use Rattle.outcome_laws.proofs.SavedLemmas.{follows, saves_checkpoint}
use Rattle.outcome_laws.proofs.StatusLemmas.{refuted}

-- a run read a text of its formula
is_read : (files : FilesView) (bytes : List ℕ) (status : ℕ) (run : IsRunOn files bytes status)
    → IsFormulaText bytes run.ends.were.formula
is_read files bytes status run = subst (λ (b : List ℕ). IsFormulaText b run.ends.were.formula) run.read run.ends.were.is_formula.2

-- the formula of a run's last round follows from the run's formula
last_follows : EntailsItself → EntailsOnward → (files : FilesView) (bytes : List ℕ) (status : ℕ) (run : IsRunOn files bytes status)
    → Entails run.ends.were.formula run.ends.last.formula
last_follows itself onward files bytes status run =
    let ends = run.ends in follows itself onward ends.were.formula ends.were.later ends.last ends.before ends.were.rounds

module _ {F : Type 0} (view : F → FilesView) (IsLast : F → List ℕ → Type 0) where
  -- the bytes that the runs read are a chain of checkpoints
  are_checkpoints : EntailsItself → EntailsOnward → (bytes : List ℕ) (more : List (List ℕ)) → AreRuns view IsLast bytes more
      → AreCheckpoints bytes more
  are_checkpoints itself onward bytes [] runs = tt
  are_checkpoints itself onward bytes (next ∷ more) runs =
      let run = runs.0.2 in
      let ends = run.ends in (
        (
          ends.were.formula,
          is_read (view runs.0.0) bytes runs.0.1 run,
          saves_checkpoint itself onward ends.were.formula ends.were.later ends.last ends.before ends.were.rounds next runs.0.3,
        ),
        are_checkpoints itself onward next more runs.1,
      )

  last_run : (bytes : List ℕ) (more : List (List ℕ)) → AreRuns view IsLast bytes more → (first : F) × IsLast first (last_file bytes more)
  last_run bytes [] runs = runs
  last_run bytes (next ∷ more) runs = last_run next more runs.1

under : (failed : Bool) (unsaved : Option SaveFault) (verdict : Verdict) → 8 ≡ report_status failed unsaved verdict
    → verdict ≡ UnsatisfiableUnder
under true unsaved verdict is = absurd (let no : Path ℕ 8 7 = is in cc)
under false (Some fault) verdict is = absurd (let no : Path ℕ 8 9 = is in cc)
under false None Unsatisfiable is = absurd (let no : Path ℕ 8 0 = is in cc)
under false None UnsatisfiableUnder is = refl
under false None Unknown is = absurd (let no : Path ℕ 8 3 = is in cc)

pub outcomes_refute : EntailsItself → EntailsOnward → RefutesBack → FilesRefute → {F : Type 0} (view : F → FilesView)
    → OutcomesRefute view
outcomes_refute itself onward back files_refute {F} view bytes more runs =
    let IsLast : F → List ℕ → Type 0 = λ first last. IsRunOn (view first) last 0 in
    let last = last_run view IsLast bytes more runs in
    let run = last.1 in
    let ends = run.ends in
    let refutes : IsUnsatisfiable ends.last.formula =
    ends.last.checked.sound (refuted run.out.failed ends.last.unsaved ends.last.verdict ends.status_is) in
    let text : IsUnsatisfiableText (last_file bytes more) = (
      ends.were.formula,
      is_read (view last.0) (last_file bytes more) 0 run,
      back ends.were.formula ends.last.formula (last_follows itself onward (view last.0) (last_file bytes more) 0 run) refutes,
    ) in
    files_refute bytes more (are_checkpoints view IsLast itself onward bytes more runs) text

pub outcomes_refute_under : EntailsItself → EntailsOnward → RefutesBackUnder → FilesRefuteUnder → {F : Type 0} (view : F → FilesView)
    → OutcomesRefuteUnder view
outcomes_refute_under itself onward back files_refute {F} view cube bytes more runs =
    let IsLast : F → List ℕ → Type 0 = λ first last. (run : IsRunOn (view first) last 8) × (run.ends.cube ≡ cube) in
    let last = last_run view IsLast bytes more runs in
    let run = last.1.0 in
    let ends = run.ends in
    let refutes : IsUnsatisfiableUnder ends.last.formula cube =
    subst (λ (c : CubeValue). IsUnsatisfiableUnder ends.last.formula c) last.1.1
    (ends.last.checked.sound_under (under run.out.failed ends.last.unsaved ends.last.verdict ends.status_is)) in
    let text : IsUnsatisfiableTextUnder cube (last_file bytes more) = (
      ends.were.formula,
      is_read (view last.0) (last_file bytes more) 8 run,
      back ends.were.formula ends.last.formula cube (last_follows itself onward (view last.0) (last_file bytes more) 8 run) refutes,
    ) in
    files_refute cube bytes more (are_checkpoints view IsLast itself onward bytes more runs) text
