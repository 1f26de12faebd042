-- What it means for the lines of a run to be serializable (this project's own).
use Rattle.std.specs.Prelude.{◌≡◌, ◌==◌, ℕ, Bool, true, List, length}
use Rattle.std.specs.List.{list_any}
use Rattle.lrup_model.specs.Cube.{CubeValue}
use Rattle.lrup_model.specs.Formula.{Cnf}
use Rattle.lrup_model.specs.Event.{History, published}
use Rattle.stream_check.specs.declared.report.Report.{Report}
use Rattle.stream_check.specs.StreamContext.{is_within}
use Rattle.stream_check.specs.Streams.{InputObservation, RunParamsValue, IsOrdered, events_in}
use Rattle.stream_check.specs.Closed.{IsClosed}
use Rattle.run_laws.specs.Groups.{IsRun}
use Rattle.run_laws.specs.Premises.{FoundStays}

-- The events and the reports have the same verdict: the empty clause is published exactly if a
-- report says that its stream added it, and a clause within the cube exactly if a report says that
-- its stream added one.
pub record ComeToVerdict (cube : CubeValue) (history : History)
    (reports : List Report) : Type 0 where
  pub empty : list_any (λ report. report.empty) reports
      ≡ list_any (λ entry. length entry.1 == 0) (published history)
  pub within : list_any (λ report. report.within) reports
      ≡ list_any (λ entry. is_within cube entry.1) (published history)

-- The run's lines are serializable. For every closed set of its streams, if no identity that one of
-- them found live and doesn't own is retired after the run's history, the set's lines have an order
-- in which a checker with one thread gives the same reports. If all streams together meet this
-- condition, their lines have an order of this kind that also has the verdict of the reports.
pub record IsSerializable {formula : Cnf} {run_params : RunParamsValue}
    {observed : List InputObservation} {reports : List Report}
    (run : IsRun formula run_params observed reports) : Type 0 where
  pub sets : (set : ℕ → Bool) → IsClosed run_params.layout set run.streams
      → FoundStays formula run_params.layout set run.history
      → IsOrdered formula run_params set run.streams reports
  pub all : FoundStays formula run_params.layout (λ s. true) run.history
      → (order : IsOrdered formula run_params (λ s. true) run.streams reports)
      × ComeToVerdict run_params.cube (events_in order.blocks) reports
