-- A run that the ring of a stream stopped (this project's own).
use Rattle.std.specs.Prelude.{◌-◌, ℕ, List, IsSome, IsSomeAnd, slice_get, take}
use Rattle.lrup_model.specs.Formula.{Cnf}
use Rattle.lrup_model.specs.Layout.{IsStream}
use Rattle.lrup_text.specs.ReadOut.{SourceView}
use Rattle.stream_check.specs.Readings.{IsStreamOf}
use Rattle.stream_check.specs.Streams.{Stream, RunParamsValue}
use Rattle.stream_check.specs.DroppedIdsValue.{DroppedIdsValue}
use Rattle.stream_check.specs.declared.report.Report.{Report}
use Rattle.run_outcome.specs.Histories.{IsRunOfSome, AreReadOut}

-- A run that the ring of this stream stopped. The streams before this one form a run on what their
-- readers delivered, for some reports. The reader of this stream, like theirs, was read to its end,
-- or to a read that failed, and some stream matches what is known about the reader and its reads.
pub record StopsAtRing {S : Type 0} (view : SourceView S) (formula : Cnf)
    (run_params : RunParamsValue) (firsts : List S) (stream : ℕ) : Type 0 where
  pub is_stream : IsStream run_params.layout stream
  pub lasts : List S
  pub reports : List Report
  pub dropped : List DroppedIdsValue
  pub before : IsRunOfSome (stream - 1) view formula run_params (take (stream - 1) firsts) lasts
      reports dropped
  pub before_end : AreReadOut before.run.streams
  pub read_out : IsSomeAnd (slice_get firsts (stream - 1)) (λ reader. (last : S) × (its : Stream)
      × IsSome its.end × IsStreamOf view reader last its)
