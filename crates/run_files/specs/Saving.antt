-- The checkpoint's file, from creating it to closing it (this project's own).
use Rattle.std.specs.Option.{ForSome}
use Rattle.std.specs.Prelude.{◌↔◌, ◌≡◌, Err, IfOk, IsTrue, List, None, Ok, Option, Result, Some, []}
use Rattle.lrup_model.specs.Event.{History}
use Rattle.lrup_model.specs.Formula.{Cnf}
use Rattle.lrup_model.specs.Layout.{LayoutValue}
use Rattle.lrup_model.specs.State.{state}
use Rattle.stream_check.specs.DroppedIdsValue.{DroppedIdsValue}
use Rattle.checkpoint.specs.Checkpoints.{WritesCheckpoint}
use Rattle.checkpoint.specs.declared.saving.SaveFault.{SaveFault}
use Rattle.checkpoint.specs.declared.saving.SaveFault.TheVariants as saves
use Rattle.run_outcome.specs.Saving.{SavesState, is_wanted}
use Rattle.run_outcome.specs.declared.outcome.Verdict.{Verdict}
use Rattle.run_outcome.specs.declared.outcome.Verdict.TheVariants.{Unsatisfiable}
use Rattle.run_files.specs.Asked.{Text}
use Rattle.run_files.specs.Causes.{IsRefusedNew}
use Rattle.run_files.specs.Files.{Effects}
use Rattle.run_files.specs.declared.fault.CommandFault.{CommandFault}
use Rattle.run_files.specs.declared.fault.CommandFault.TheVariants as faults
use Rattle.run_files.specs.declared.files.OpenFault.TheVariants as open_faults

-- An attempt to save a checkpoint to a sink, which was `first` before and `last` after. The streams
-- of the formula with this layout had been checked, with this history and these dropped identities.
-- A successful save wrote a text of a formula over the same variables, whose clauses all follow
-- from `formula`; if the result has a formula, it is the saved one. The saved clauses are exactly
-- those that the history leaves live, except those that all streams dropped. The result is
-- `Unwritten` exactly if the sink has failed.
pub record SavesCheckpoint (its : Effects) (formula : Cnf) (layout : LayoutValue)
    (history : History)
    (dropped : List DroppedIdsValue) (result : Result (Option Cnf) SaveFault)
    (first last : its.Output) : Type 0 where
  pub checkpoint : IfOk result
      (WritesCheckpoint formula (its.written first) (its.written last))
  pub exactly : SavesState its.written result (state formula history) layout (is_wanted dropped)
      first last
  pub failed : IsTrue (its.has_failed last) ↔ (result ≡ Err saves.Unwritten)

-- How a file was closed after a save with this result. If the save succeeded, the file was kept, or
-- keeping it failed; if the save failed, the file was discarded. `unsaved` says why nothing was
-- saved, if nothing was, and `next` is the saved formula, if the save gives it.
abbrev pub ClosesSink : (its : Effects) → Result (Option Cnf) SaveFault → its.State → its.Output
    → Option SaveFault → Option Cnf → its.State → Type 0
ClosesSink its (Ok made) before last None next after = (next ≡ made) × its.keeps before last after
ClosesSink its (Ok made) before last (Some fault) next after =
    (fault ≡ saves.Unwritten) × (next ≡ None) × its.loses before last after
ClosesSink its (Err fault) before last unsaved next after =
    (unsaved ≡ Some fault) × (next ≡ None) × its.discards before last after

-- with a path, an empty file was created there; without a path, there is no file
abbrev pub CreatesCheckpoint : (its : Effects) → its.State → Option Text → Option its.Output
    → its.State → Type 0
CreatesCheckpoint its before None None after = after ≡ before
CreatesCheckpoint its before (Some path) (Some output) after =
    its.creates before path output after × ForSome (its.written output) (λ all. all ≡ [])
CreatesCheckpoint its before path output after = ⊥

-- why the file at the path wasn't created
abbrev pub IsNotCreated : (its : Effects) → its.State → Option Text → CommandFault → its.State
    → Type 0
IsNotCreated its before path faults.NotCreated after =
    IsRefusedNew its before path open_faults.NotOpened after
IsNotCreated its before path faults.Memory after =
    IsRefusedNew its before path open_faults.Memory after
IsNotCreated its before path fault after = ⊥

-- the file is discarded, if there is one
abbrev pub DiscardsIt : (its : Effects) → its.State → Option its.Output → its.State → Type 0
DiscardsIt its before None after = after ≡ before
DiscardsIt its before (Some output) after = its.discards before output after

-- The program tried to save the checkpoint to the file, and closed it as `ClosesSink` says.
pub record SavesAndCloses (its : Effects)
    (Saves : Result (Option Cnf) SaveFault → its.Output → its.Output → Type 0) (before : its.State)
    (first : its.Output) (unsaved : Option SaveFault) (next : Option Cnf)
    (after : its.State) : Type 0 where
  pub result : Result (Option Cnf) SaveFault
  pub last : its.Output
  pub saving : Saves result first last
  pub closed : ClosesSink its result before last unsaved next after

-- What became of the file, if there is one: with the verdict 'unsatisfiable' it was discarded;
-- otherwise the program tried to save the checkpoint to it, and closed it.
abbrev pub ClosesCheckpoint : (its : Effects)
    → (Result (Option Cnf) SaveFault → its.Output → its.Output → Type 0) → Verdict → its.State
    → Option its.Output → Option SaveFault → Option Cnf → its.State → Type 0
ClosesCheckpoint its Saves verdict before None unsaved next after =
    (unsaved ≡ None) × (next ≡ None) × (after ≡ before)
ClosesCheckpoint its Saves Unsatisfiable before (Some first) unsaved next after =
    (unsaved ≡ None) × (next ≡ None) × its.discards before first after
ClosesCheckpoint its Saves verdict before (Some first) unsaved next after =
    SavesAndCloses its Saves before first unsaved next after
