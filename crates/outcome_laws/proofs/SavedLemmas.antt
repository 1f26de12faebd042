-- What a round saved follows from the round's formula, and from the formula of round 1.
use Rattle.std.proofs.Common.{◌≡◌, ◌∷◌, ℕ, List, [], Option, None, Some, Result, Ok, Err, sym, subst}
use Rattle.lrup_model.specs.Cube.{CubeValue}
use Rattle.lrup_model.specs.Event.{History}
use Rattle.lrup_model.specs.Formula.{Cnf}
use Rattle.lrup_model.specs.Layout.{LayoutValue}
use Rattle.run_outcome.specs.declared.outcome.Verdict.{Verdict}
use Rattle.run_outcome.specs.declared.outcome.Verdict.TheVariants.{Unsatisfiable, UnsatisfiableUnder, Unknown}
use Rattle.checkpoint.specs.Checkpoints.{IsCheckpoint}
use Rattle.checkpoint.specs.Entails.{Entails, EntailsItself, EntailsOnward}
use Rattle.checkpoint.specs.declared.saving.SaveFault.{SaveFault}
use Rattle.stream_check.specs.DroppedIdsValue.{DroppedIdsValue}
use Rattle.command_line.specs.declared.words.CommandLine.{CommandLine}
use Rattle.run_files.specs.Files.{Effects}
use Rattle.run_files.specs.Asked.{Text, created_path}
use Rattle.command.specs.Rounds.{AreRounds, LeavesAtPath, Round}
use Rattle.run_files.specs.Saving.{SavesCheckpoint}
use Rattle.command.specs.lemmas.SavedLemmas.{carried_entails}
use Rattle.outcome_laws.specs.Outcomes.{layout_in}
use Rattle.outcome_laws.specs.Refuting.{saved_bytes, saved_in, written_bytes}

module _ (its : Effects) (f : Cnf) (layout : LayoutValue) (history : History) (dropped : List DroppedIdsValue) where
  abbrev Saves : Result (Option Cnf) SaveFault → its.Output → its.Output → Type 0
  Saves = SavesCheckpoint its f layout history dropped

  abbrev Leaves : Verdict → its.State → Option Text → Option SaveFault → Option Cnf → its.State → Type 0
  Leaves = LeavesAtPath its Saves

  -- what was saved is a checkpoint
  is_written : (result : Result (Option Cnf) SaveFault) (first last : its.Output) (saves : Saves result first last) (saved : List ℕ)
      → written_bytes result first last saves ≡ Some saved → IsCheckpoint f saved
  is_written (Ok next) first last saves saved is =
      let same : saves.checkpoint.bytes ≡ saved = cc in subst (IsCheckpoint f) same saves.checkpoint.checkpoint
  is_written (Err fault) first last saves saved is = absurd (let no : None ≡ Some saved = is in cc)

  is_saved : (verdict : Verdict) (before : its.State) (path : Option Text) (unsaved : Option SaveFault) (next : Option Cnf)
      (after : its.State) (leaves : Leaves verdict before path unsaved next after) (saved : List ℕ)
      → saved_bytes its f layout history dropped verdict before path unsaved next after leaves ≡ Some saved → IsCheckpoint f saved
  is_saved verdict before None unsaved next after leaves saved is = absurd (let no : None ≡ Some saved = is in cc)
  is_saved Unsatisfiable before (Some path) unsaved next after leaves saved is = absurd (let no : None ≡ Some saved = is in cc)
  is_saved UnsatisfiableUnder before (Some path) (Some fault) next after leaves saved is = absurd (let no : None ≡ Some saved = is in cc)
  is_saved UnsatisfiableUnder before (Some path) None next after leaves saved is =
      is_written leaves.result leaves.first leaves.last leaves.saving saved is
  is_saved Unknown before (Some path) (Some fault) next after leaves saved is = absurd (let no : None ≡ Some saved = is in cc)
  is_saved Unknown before (Some path) None next after leaves saved is =
      is_written leaves.result leaves.first leaves.last leaves.saving saved is

module _ (itself : EntailsItself) (onward : EntailsOnward) {its : Effects} {given : CommandLine} {cube : CubeValue} (f : Cnf)
    (first : its.State) where
  -- each round's formula follows from the formula of round 1
  pub follows : (round : Round its given cube) (before : List (Round its given cube)) → AreRounds f first (round ∷ before)
      → Entails f round.formula
  follows round [] rounds = subst (Entails f) (sym rounds.formula_is) (itself f)
  follows round (b ∷ more) rounds =
      onward f b.formula round.formula (follows b more rounds.1) (carried_entails b round.formula rounds.0.goes_on)

  -- what a round saved is a checkpoint for the formula of round 1
  pub saves_checkpoint : (round : Round its given cube) (before : List (Round its given cube)) → AreRounds f first (round ∷ before)
      → (saved : List ℕ) → saved_in round ≡ Some saved → IsCheckpoint f saved
  saves_checkpoint round before rounds saved is =
      let checkpoint : IsCheckpoint round.formula saved =
      is_saved its round.formula (layout_in round.formula round.sizes) round.checked.ran.run.history round.checked.dropped
      round.verdict round.opened (created_path given.next round.number) round.unsaved round.next round.after round.leaves saved is in
      record {
        formula = checkpoint.formula;
        text = checkpoint.text;
        entails = onward f round.formula checkpoint.formula (follows round before rounds) checkpoint.entails;
      }
