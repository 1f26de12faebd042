-- What a run promises of its streams, on one thread or with two threads for each (this project's
-- own).
use Rattle.std.specs.Prelude.{◌≡◌, ℕ, Bool, true, false, List, IsSome}
use Rattle.std.specs.List.{AllByRecursion}
use Rattle.lrup_model.specs.Event.{History, own}
use Rattle.lrup_model.specs.Formula.{Cnf}
use Rattle.lrup_text.specs.ReadOut.{SourceView}
use Rattle.stream_check.specs.DroppedIdsValue.{DroppedIdsValue}
use Rattle.stream_check.specs.Judging.{joined}
use Rattle.stream_check.specs.declared.report.Report.{Report}
use Rattle.stream_check.specs.Readings.{AreRead}
use Rattle.stream_check.specs.Streams.{Stream, RunParamsValue, events_in, observations}
use Rattle.stream_check.specs.Turns.{IsOrderedRoundRobin}
use Rattle.run_laws.specs.Groups.{IsRunOfFirst}
use Rattle.stream_check.specs.Dropping.{HaveDropped}

-- each stream was read to its end, or to a read that failed
abbrev pub AreReadOut : List Stream → Type 0
AreReadOut streams = AllByRecursion (λ stream. IsSome stream.end) streams

-- the history consists of the events of an order of lines, which takes one line of each stream in
-- turn
abbrev pub TakeTurns : Cnf → RunParamsValue → History → List Stream → List Report → Type 0
TakeTurns formula run_params history streams reports =
    (ordered : IsOrderedRoundRobin formula run_params streams reports)
    × (history ≡ events_in ordered.order.blocks)

-- on one thread (`serial`) the streams take turns; with threads they are read out
abbrev pub RanSo : (serial : Bool) → Cnf → RunParamsValue → History → List Stream → List Report
    → Type 0
RanSo true formula run_params history streams reports =
    TakeTurns formula run_params history streams reports
RanSo false formula run_params history streams reports = AreReadOut streams

-- What a run promises of its first `many` streams, with threads or on one thread. `firsts` are the
-- streams' readers before the first read, and `lasts` the readers at the end. There is a run whose
-- streams match what is observed of the readers and are what the readers' reads gave; and each
-- stream dropped exactly what its lines drop, up to the line that stopped the stream, if a line
-- did. The events with which these lines are good are the stream's own calls in the run's history.
-- (Only what checkpoints promise needs `have_dropped`.)
pub record IsRunOfSome {S : Type 0} (many : ℕ) (view : SourceView S) (formula : Cnf)
    (run_params : RunParamsValue) (firsts lasts : List S) (reports : List Report)
    (dropped : List DroppedIdsValue) : Type 0 where
  pub run : IsRunOfFirst many formula run_params (observations view firsts lasts) reports
  pub read : AreRead S view.reads firsts lasts run.streams
  pub have_dropped : HaveDropped run_params (λ t blocks. own run.history t ≡ joined blocks) 1
      run.streams reports dropped

-- what a run promises of all streams of the layout
abbrev pub IsRunOf : {S : Type 0} → SourceView S → Cnf → RunParamsValue
    → (firsts lasts : List S) → List Report → List DroppedIdsValue → Type 0
IsRunOf view formula run_params firsts lasts reports dropped =
    IsRunOfSome run_params.layout.streams view formula run_params firsts lasts reports dropped
