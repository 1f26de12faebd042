-- What a round saved.
use Rattle.std.proofs.Common.{◌≡◌, ◌∙◌, ◌+◌, ℕ, List, Option, None, Some, Result, Ok, Err, [], ap, refl, subst, sym}
use Rattle.std.specs.Prelude.{option_map}
use Rattle.std.specs.Option.{ForSome}
use Rattle.lrup_model.specs.Cube.{CubeValue}
use Rattle.lrup_model.specs.Event.{History}
use Rattle.lrup_model.specs.Formula.{Cnf}
use Rattle.lrup_model.specs.Layout.{LayoutValue}
use Rattle.run_outcome.specs.declared.outcome.Verdict.{Verdict}
use Rattle.run_outcome.specs.declared.outcome.Verdict.TheVariants.{Unsatisfiable, UnsatisfiableUnder, Unknown}
use Rattle.checkpoint.specs.Checkpoints.{IsCheckpoint}
use Rattle.checkpoint.specs.Entails.{Entails}
use Rattle.checkpoint.specs.declared.saving.SaveFault.{SaveFault}
use Rattle.command_line.specs.CommandLine.{rounds_of}
use Rattle.command_line.specs.declared.words.CommandLine.{CommandLine}
use Rattle.command_line.specs.declared.words.Next.{Next}
use Rattle.command_line.specs.declared.words.Next.TheVariants.{Checkpoint, Nothing, Rounds}
use Rattle.stream_check.specs.DroppedIdsValue.{DroppedIdsValue}
use Rattle.run_files.specs.Files.{Effects, WasSavedBy}
use Rattle.run_files.specs.Asked.{Text, created_path, run_params_by}
use Rattle.run_files.specs.Paths.{formula_path}
use Rattle.command.specs.Rounds.{CarriesOn, LeavesAtPath, LeavesFile, Round}
use Rattle.run_files.specs.Saving.{ClosesSink, SavesCheckpoint}

-- A checkpoint of the formula was saved at the path; the next formula, if there is one, is the
-- checkpoint's.
pub record KeptAt (its : Effects) (formula : Cnf) (before : its.State) (path : Text)
    (next : Option Cnf) (after : its.State) : Type 0 where
  pub bytes : List ℕ
  pub checkpoint : IsCheckpoint formula bytes
  pub saved : WasSavedBy its before path bytes after
  pub next_is : ForSome next (λ made. made ≡ checkpoint.formula)

module _ (its : Effects) (f : Cnf) (layout : LayoutValue) (h : History) (dropped : List DroppedIdsValue) where
  abbrev Saves : Result (Option Cnf) SaveFault → its.Output → its.Output → Type 0
  Saves = SavesCheckpoint its f layout h dropped

  -- if there was no fault when the file was closed, the checkpoint was saved
  closed_kept : (before opened after : its.State) (path : Text)
      (result : Result (Option Cnf) SaveFault) (first last : its.Output) (next : Option Cnf)
      → its.creates before path first opened → ForSome (its.written first) (λ all. all ≡ [])
      → Saves result first last → ClosesSink its result opened last None next after
      → KeptAt its f before path next after
  closed_kept before opened after path (Ok made) first last next created empty saving closed =
      let wrote = saving.checkpoint in
      record {
        bytes = wrote.bytes;
        checkpoint = wrote.checkpoint;
        saved = record {
          first = first;
          next = opened;
          created = created;
          empty = empty;
          last = last;
          wrote = wrote.written;
          kept = closed.1;
        };
        next_is = subst (λ (n : Option Cnf). ForSome n (λ formula. formula ≡ wrote.checkpoint.formula)) (sym closed.0) wrote.next_is;
      }
  closed_kept before opened after path (Err fault) first last next created empty saving closed =
      absurd (let no : None ≡ Some fault = closed.0 in cc)

  file_kept : (before after : its.State) (path : Text) (next : Option Cnf)
      → LeavesFile its Saves before path None next after
      → KeptAt its f before path next after
  file_kept before after path next leaves =
      closed_kept before leaves.opened after path leaves.result leaves.first leaves.last next leaves.created leaves.empty leaves.saving
      leaves.closed

  pub leaves_kept : (verdict : Verdict) (before after : its.State) (path : Text) (next : Option Cnf)
      → (verdict ≡ Unsatisfiable → ⊥)
      → LeavesAtPath its Saves verdict before (Some path) None next after
      → KeptAt its f before path next after
  leaves_kept Unsatisfiable before after path next unrefuted leaves = absurd (unrefuted refl)
  leaves_kept UnsatisfiableUnder before after path next unrefuted leaves = file_kept before after path next leaves
  leaves_kept Unknown before after path next unrefuted leaves = file_kept before after path next leaves

-- a round saves to the file of the next round's formula
pub created_in : (next : Next) (folder : Text) (number : ℕ) → rounds_of next ≡ Some folder
    → created_path next number ≡ Some (formula_path folder (number + 1))
created_in Nothing folder number asked = absurd (let no : None ≡ Some folder = asked in cc)
created_in (Checkpoint path) folder number asked = absurd (let no : None ≡ Some folder = asked in cc)
created_in (Rounds other) folder number asked = ap (option_map (λ at. formula_path at (number + 1))) asked

module _ {its : Effects} {given : CommandLine} {cube : CubeValue} (round : Round its given cube) where
  -- if a round's verdict isn't 'unsatisfiable', and its checkpoint was saved, it was saved at the
  -- path of the file that the round created
  pub kept : (path : Text) → created_path given.next round.number ≡ Some path
      → (round.verdict ≡ Unsatisfiable → ⊥)
      → round.unsaved ≡ None → KeptAt its round.formula round.opened path round.next round.after
  kept path at unrefuted saved =
      let layout = (run_params_by given cube round.formula round.sizes).layout in
      let h = round.checked.ran.run.history in
      let dropped = round.checked.dropped in
      let Leaves : Option Text → Option SaveFault → Type 0 = λ o u. LeavesAtPath its (SavesCheckpoint its round.formula layout h dropped)
      round.verdict round.opened o u round.next round.after in
      leaves_kept its round.formula layout h dropped round.verdict round.opened round.after path round.next unrefuted
      (subst (Leaves (Some path)) saved (subst (λ (o : Option Text). Leaves o round.unsaved) at round.leaves))

  -- if the run continues after a round, that round saved its checkpoint, whose formula is the next
  -- round's
  pub carried : (next : Cnf) (on : CarriesOn round next)
      → KeptAt its round.formula round.opened (formula_path on.folder (round.number + 1))
      (Some next) round.after
  carried next on =
      let path = formula_path on.folder (round.number + 1) in
      subst (λ (n : Option Cnf). KeptAt its round.formula round.opened path n round.after) on.next_is
      (kept path (created_in given.next on.folder round.number on.asked)
      (λ refuted. let no : Unsatisfiable ≡ Unknown = sym refuted ∙ on.verdict in cc) on.unsaved)

  pub carried_entails : (next : Cnf) → CarriesOn round next → Entails round.formula next
  carried_entails next on =
      let at = carried next on in
      subst (Entails round.formula) (sym (at.next_is next refl)) at.checkpoint.entails
