-- What the check of streams leaves: definitions for contracts of private functions (this project's
-- own).
use Rattle.std.specs.Prelude.{◌≡◌, Bool, List, false}
use Rattle.lrup_model.specs.Formula.{Cnf}
use Rattle.lrup_model.specs.Layout.{IsFault, IsStream, LayoutValue}
use Rattle.lrup_text.specs.ReadOut.{SourceView}
use Rattle.stream_check.specs.DroppedIdsValue.{DroppedIdsValue}
use Rattle.stream_check.specs.Streams.{RunParamsValue}
use Rattle.stream_check.specs.declared.report.Report.{Report}
use Rattle.run_outcome.specs.RingStops.{StopsAtRing}
use Rattle.run_outcome.specs.Saving.{WereLeftBy, layout_left}
use Rattle.run_outcome.specs.declared.outcome.Verdict.{Verdict}
use Rattle.run_outcome.specs.declared.saving.Clauses.{Clauses}
use Rattle.run_files.specs.Causes.{HasNoFault}
use Rattle.run_files.specs.declared.fault.CommandFault.{CommandFault}
use Rattle.run_files.specs.declared.fault.CommandFault.TheVariants as faults
use Rattle.command.specs.Commands.{AreChecked}

-- The streams were checked. The run's history left these clauses, and its streams dropped these
-- identities.
pub record IsCheckResult {R : Type 0} (view : SourceView R) (serial : Bool) (formula : Cnf)
    (run_params : RunParamsValue) (firsts : List R) (reports : List Report) (verdict : Verdict)
    (clauses : Clauses) (dropped : List DroppedIdsValue) : Type 0 where
  pub checked : AreChecked view serial formula run_params firsts reports verdict
  pub layout : layout_left clauses ≡ run_params.layout
  pub dropped_is : dropped ≡ checked.dropped
  pub has : WereLeftBy formula checked.ran.run.history clauses

-- why streams aren't checked: they have no layout
abbrev pub IsLayoutCause : LayoutValue → CommandFault → Type 0
IsLayoutCause layout (faults.Layout fault) = IsFault layout fault
IsLayoutCause layout fault = ⊥

-- why the streams of a formula weren't checked: they have no layout; or they have one, but a thread
-- wasn't started, or a ring lost the end of a stream, after that stream had been read and the
-- earlier ones judged; or memory ran out
abbrev pub IsRunCause : {R : Type 0} → SourceView R → Bool → Cnf → RunParamsValue → List R
    → CommandFault → Type 0
IsRunCause view serial formula run_params readers (faults.Layout fault) =
    IsFault run_params.layout fault
IsRunCause view serial formula run_params readers (faults.Spawn stream) =
    HasNoFault run_params.layout × (serial ≡ false) × IsStream run_params.layout stream
IsRunCause view serial formula run_params readers (faults.Ring stream) =
    HasNoFault run_params.layout × (serial ≡ false)
    × StopsAtRing view formula run_params readers stream
IsRunCause view serial formula run_params readers faults.Memory = Unit {0}
IsRunCause view serial formula run_params readers fault = ⊥
