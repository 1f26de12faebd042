-- Runs of the program in sequence, each starting from what the previous one saved (this project's
-- own).
use Rattle.std.specs.Prelude.{◌≡◌, ℕ, List, [], ◌∷◌, Option, None, Some, Result, Ok, Err}
use Rattle.lrup_model.specs.Cube.{CubeValue}
use Rattle.lrup_model.specs.Event.{History}
use Rattle.lrup_model.specs.Formula.{Cnf}
use Rattle.lrup_model.specs.Layout.{LayoutValue}
use Rattle.run_outcome.specs.declared.outcome.Verdict.{Verdict}
use Rattle.run_outcome.specs.declared.outcome.Verdict.TheVariants.{Unsatisfiable}
use Rattle.checkpoint.specs.Checkpoints.{IsUnsatisfiableText, IsUnsatisfiableTextUnder}
use Rattle.checkpoint.specs.declared.saving.SaveFault.{SaveFault}
use Rattle.stream_check.specs.DroppedIdsValue.{DroppedIdsValue}
use Rattle.command_line.specs.declared.words.CommandLine.{CommandLine}
use Rattle.run_files.specs.Files.{Effects, FilesView}
use Rattle.command.specs.Commands.{SinkChange}
use Rattle.run_files.specs.Asked.{Text, created_path}
use Rattle.command.specs.Rounds.{EndsWithReport, LeavesAtPath, Round}
use Rattle.run_files.specs.Saving.{SavesCheckpoint}
use Rattle.outcome_laws.specs.Outcomes.{layout_in}

-- A run of one round or more ended with a report and this status, and these bytes were read from
-- its FORMULA.
pub record IsRunOn (files : FilesView) (bytes : List ℕ) (status : ℕ) : Type 0 where
  pub words : List Text
  pub after : files.its.State
  pub out : SinkChange
  pub err : SinkChange
  pub ends : EndsWithReport files words after out err status
  pub read : ends.were.is_formula.0 ≡ bytes

-- the bytes that were written to a sink, if the save succeeded
abbrev pub written_bytes : {its : Effects} {formula : Cnf} {layout : LayoutValue}
    {history : History}
    {dropped : List DroppedIdsValue} (result : Result (Option Cnf) SaveFault)
    (first last : its.Output)
    → SavesCheckpoint its formula layout history dropped result first last → Option (List ℕ)
written_bytes (Ok _) first last saves = Some saves.checkpoint.bytes
written_bytes (Err fault) first last saves = None

-- the bytes that were saved as a checkpoint, if any were
abbrev pub saved_bytes : (its : Effects) (formula : Cnf) (layout : LayoutValue) (history : History)
    (dropped : List DroppedIdsValue) (verdict : Verdict) (before : its.State) (path : Option Text)
    (unsaved : Option SaveFault) (next : Option Cnf) (after : its.State)
    → LeavesAtPath its (SavesCheckpoint its formula layout history dropped) verdict before path
    unsaved next after → Option (List ℕ)
saved_bytes its formula layout history dropped verdict before None unsaved next after leaves = None
saved_bytes its formula layout history dropped Unsatisfiable before (Some path) unsaved next after
    leaves = None
saved_bytes its formula layout history dropped verdict before (Some path) (Some fault) next after
    leaves = None
saved_bytes its formula layout history dropped verdict before (Some path) None next after leaves =
    written_bytes leaves.result leaves.first leaves.last leaves.saving

-- the bytes that a round saved as a checkpoint, if any were
abbrev pub saved_in : {its : Effects} {given : CommandLine} {cube : CubeValue}
    → Round its given cube
    → Option (List ℕ)
saved_in {its} {given} round =
    saved_bytes its round.formula (layout_in round.formula round.sizes)
    round.checked.ran.run.history round.checked.dropped round.verdict round.opened
    (created_path given.next round.number) round.unsaved round.next round.after round.leaves

-- Runs in sequence, each with the files as they were before it: the first run read these bytes,
-- each later one read what the last round of the previous run saved, and `IsLast` holds for the
-- last run.
abbrev pub AreRuns : {F : Type 0} → (F → FilesView) → (F → List ℕ → Type 0) → List ℕ
    → List (List ℕ) → Type 0
AreRuns {F = F} view IsLast bytes [] = (first : F) × IsLast first bytes
AreRuns {F = F} view IsLast bytes (next ∷ more) =
    ((first : F) × (status : ℕ) × (run : IsRunOn (view first) bytes status)
    × (saved_in run.ends.last ≡ Some next)) × AreRuns view IsLast next more

-- If the last of these runs ended with status 0, the first one read a text of a formula that no
-- assignment satisfies.
abbrev pub OutcomesRefute : {F : Type 0} → (F → FilesView) → Type 0
OutcomesRefute view = (bytes : List ℕ) (more : List (List ℕ))
    → AreRuns view (λ first last. IsRunOn (view first) last 0) bytes more
    → IsUnsatisfiableText bytes

-- If the last of these runs ended with status 8 under these assumed literals, the first one read a
-- text of a formula that no assignment satisfies together with these literals.
abbrev pub OutcomesRefuteUnder : {F : Type 0} → (F → FilesView) → Type 0
OutcomesRefuteUnder view = (cube : CubeValue) (bytes : List ℕ) (more : List (List ℕ))
    → AreRuns view
    (λ first last. (run : IsRunOn (view first) last 8) × (run.ends.cube ≡ cube)) bytes more
    → IsUnsatisfiableTextUnder cube bytes
