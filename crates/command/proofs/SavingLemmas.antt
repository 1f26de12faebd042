-- A checkpoint's file, from creating it to closing it.
use Rattle.std.proofs.Common.{◌∙◌, ◌≡◌, Bool, List, None, Option, Result, Some, is_some, refl, subst, true}
use Rattle.lrup_model.specs.Formula.{Cnf}
use Rattle.lrup_model.specs.Layout.{LayoutValue}
use Rattle.lrup_text.specs.ReadOut.{SourceView}
use Rattle.stream_check.specs.DroppedIdsValue.{DroppedIdsValue}
use Rattle.stream_check.specs.Streams.{RunParamsValue}
use Rattle.stream_check.specs.declared.report.Report.{Report}
use Rattle.checkpoint.specs.declared.saving.SaveFault.{SaveFault}
use Rattle.run_outcome.specs.Saving.{layout_left}
use Rattle.run_outcome.specs.declared.outcome.Verdict.{Verdict}
use Rattle.run_outcome.specs.declared.outcome.Verdict.TheVariants.{Unknown, Unsatisfiable, UnsatisfiableUnder}
use Rattle.run_outcome.specs.declared.saving.Clauses.{Clauses}
use Rattle.run_files.specs.Asked.{Text}
use Rattle.run_files.specs.Causes.{IsLeftUnused}
use Rattle.run_files.specs.Files.{Effects}
use Rattle.run_files.specs.Saving.{ClosesCheckpoint, CreatesCheckpoint, DiscardsIt}
use Rattle.command.specs.Rounds.{LeavesAtPath}
use Rattle.command.specs.internal.Running.{IsCheckResult}

module _ (its : Effects) (Saves : Result (Option Cnf) SaveFault → its.Output → its.Output → Type 0) where
  -- a file that was created and closed is left at the path
  leaves_file : (verdict : Verdict) (before opened after : its.State) (path : Text) (first : its.Output) (unsaved : Option SaveFault)
      (next : Option Cnf)
      → CreatesCheckpoint its before (Some path) (Some first) opened
      → ClosesCheckpoint its Saves verdict opened (Some first) unsaved next after
      → LeavesAtPath its Saves verdict before (Some path) unsaved next after
  leaves_file Unsatisfiable before opened after path first unsaved next created closes = (
    closes.0,
    closes.1,
    record { output = first; next = opened; created = created.0; empty = created.1; discarded = closes.2 },
  )
  leaves_file UnsatisfiableUnder before opened after path first unsaved next created closes = record {
    first = first;
    opened = opened;
    created = created.0;
    empty = created.1;
    result = closes.result;
    last = closes.last;
    saving = closes.saving;
    closed = closes.closed;
  }
  leaves_file Unknown before opened after path first unsaved next created closes = record {
    first = first;
    opened = opened;
    created = created.0;
    empty = created.1;
    result = closes.result;
    last = closes.last;
    saving = closes.saving;
    closed = closes.closed;
  }

  pub leaves_at_path : (verdict : Verdict) (before opened after : its.State) (path : Option Text) (output : Option its.Output)
      (unsaved : Option SaveFault) (next : Option Cnf)
      → CreatesCheckpoint its before path output opened → ClosesCheckpoint its Saves verdict opened output unsaved next after
      → LeavesAtPath its Saves verdict before path unsaved next after
  leaves_at_path verdict before opened after None None unsaved next created closes = (closes.0, closes.1, closes.2 ∙ created)
  leaves_at_path verdict before opened after None (Some first) unsaved next created closes = absurd created
  leaves_at_path verdict before opened after (Some path) None unsaved next created closes = absurd created
  leaves_at_path verdict before opened after (Some path) (Some first) unsaved next created closes =
      leaves_file verdict before opened after path first unsaved next created closes

-- a file that was created and discarded was left unused
pub left_unused : (its : Effects) (before next after : its.State) (path : Option Text) (output : Option its.Output)
    → CreatesCheckpoint its before path output next → DiscardsIt its next output after → IsLeftUnused its before path after
left_unused its before next after None None created discards = discards ∙ created
left_unused its before next after None (Some first) created discards = absurd created
left_unused its before next after (Some path) None created discards = absurd created
left_unused its before next after (Some path) (Some first) created discards =
    record { output = first; next = next; created = created.0; empty = created.1; discarded = discards }

-- If P holds of the layout and the dropped identities in a result, it holds of the run's own.
pub left_moved : {R : Type 0} {view : SourceView R} {serial : Bool} {f : Cnf} {run_params : RunParamsValue} {firsts : List R}
    {reports : List Report} {verdict : Verdict} {clauses : Clauses} {dropped : List DroppedIdsValue}
    (result_is : IsCheckResult view serial f run_params firsts reports verdict clauses dropped)
    (P : LayoutValue → List DroppedIdsValue → Type 0)
    → P (layout_left clauses) dropped → P run_params.layout result_is.checked.dropped
left_moved {run_params = run_params} {dropped = dropped} result_is P is =
    subst (P run_params.layout) result_is.dropped_is (subst (λ (p : LayoutValue). P p dropped) result_is.layout is)

-- if there is a path, a file was created
pub creates_some : (its : Effects) (before after : its.State) (path : Option Text) (output : Option its.Output) (at : Text)
    → CreatesCheckpoint its before path output after → path ≡ Some at → is_some output ≡ true
creates_some its before after None output at created is = absurd (let no : None ≡ Some at = is in cc)
creates_some its before after (Some path) None at created is = absurd created
creates_some its before after (Some path) (Some output) at created is = refl
