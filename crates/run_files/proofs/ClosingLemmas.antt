-- Saving to a checkpoint's file, and closing it.
use Rattle.std.proofs.Common.{◌≡◌, Err, IfOk, IsTrue, List, Option, Result, subst, sym}
use Rattle.std.specs.Prelude.{◌↔◌}
use Rattle.lrup_model.specs.Event.{History}
use Rattle.lrup_model.specs.Formula.{Cnf}
use Rattle.lrup_model.specs.State.{state}
use Rattle.stream_check.specs.DroppedIdsValue.{DroppedIdsValue}
use Rattle.checkpoint.specs.Checkpoints.{WritesCheckpoint}
use Rattle.checkpoint.specs.declared.saving.SaveFault.{SaveFault}
use Rattle.checkpoint.specs.declared.saving.SaveFault.TheVariants as faults
use Rattle.run_outcome.specs.Saving.{SavesState, WereLeftBy, is_wanted, layout_left}
use Rattle.run_outcome.specs.declared.saving.Clauses.{Clauses}
use Rattle.run_files.specs.Files.{Effects}
use Rattle.run_files.specs.Saving.{ClosesSink, SavesAndCloses, SavesCheckpoint}

module _ (its : Effects) (f : Cnf) (h : History) (clauses : Clauses) (dropped : List DroppedIdsValue) (has : WereLeftBy f h clauses)
    (before after : its.State)
    (first last : its.Output) (result : Result (Option Cnf) SaveFault)
    (checkpoint : (f : Cnf) (h : History) → WereLeftBy f h clauses → IfOk result
    (WritesCheckpoint f (its.written first) (its.written last)))
    (saves : (f : Cnf) (h : History) → WereLeftBy f h clauses
    → SavesState its.written result (state f h) (layout_left clauses) (is_wanted dropped) first last)
    (failed : IsTrue (its.has_failed last) ↔ (result ≡ Err faults.Unwritten)) where
  abbrev Saved : Result (Option Cnf) SaveFault → its.Output → its.Output → Type 0
  Saved = SavesCheckpoint its f (layout_left clauses) h dropped

  saving : Saved result first last
  saving = record { checkpoint = checkpoint f h has; exactly = saves f h has; failed = failed }

  -- what was saved, and how the file was closed
  pub saves_and_closes : (unsaved : Option SaveFault) (next : Option Cnf) (other : Result (Option Cnf) SaveFault) → result ≡ other
      → ClosesSink its other before last unsaved next after → SavesAndCloses its Saved before first unsaved next after
  saves_and_closes unsaved next other same closed = record {
    result = result;
    last = last;
    saving = saving;
    closed = subst (λ (r : Result (Option Cnf) SaveFault). ClosesSink its r before last unsaved next after) (sym same) closed;
  }
