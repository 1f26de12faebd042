-- Which identities the streams of a run dropped (this project's own).
use Rattle.std.specs.Prelude.{◌≡◌, ℕ, List, []}
use Rattle.lrup_model.specs.Event.{History}
use Rattle.lrup_text.specs.Lines.{StreamLine, Cut}
use Rattle.stream_check.specs.declared.report.Ending.{Ending}
use Rattle.stream_check.specs.declared.report.Ending.TheVariants as endings
use Rattle.stream_check.specs.declared.report.Report.{Report}
use Rattle.stream_check.specs.DroppedIdsValue.{DroppedIdsValue}
use Rattle.stream_check.specs.StreamParams.{StreamParams}
use Rattle.stream_check.specs.StreamContext.{is_among, context_of}
use Rattle.stream_check.specs.Judging.{AreGood}
use Rattle.stream_check.specs.Stopping.{DropsUntilStop}
use Rattle.stream_check.specs.Each.{EachOfThree}
use Rattle.stream_check.specs.Streams.{Stream, RunParamsValue, stream_params}

-- These are the identities that the lines of the bytes drop. The lines are good with these blocks
-- of events; a deletion drops those of its identities that are the formula's or another stream's.
pub record AreDroppedBy (params : StreamParams) (bytes : List ℕ) (blocks : List History)
    (ids : List ℕ) : Type 0 where
  pub lines : List StreamLine
  pub rest : List ℕ
  pub cut : Cut bytes lines rest
  pub good : AreGood params [] lines blocks
  pub are : (id : ℕ) → is_among ids id ≡ (context_of params lines).is_dropped id

-- what a stream with this ending dropped
abbrev pub HasDroppedBy : Ending → StreamParams → List ℕ → List History → Report → DroppedIdsValue
    → Type 0
HasDroppedBy endings.Ended params bytes blocks report dropped =
    AreDroppedBy params bytes blocks dropped.ids
HasDroppedBy (endings.Bad line fault) params bytes blocks report dropped =
    DropsUntilStop params bytes blocks report (is_among dropped.ids)
HasDroppedBy (endings.ReadFailed line) params bytes blocks report dropped =
    AreDroppedBy params bytes blocks dropped.ids
HasDroppedBy (endings.Memory line) params bytes blocks report dropped =
    DropsUntilStop params bytes blocks report (is_among dropped.ids) × (dropped.spare ≡ 0)

-- If the stream ended or a read failed, all its lines were good, and these are the identities that
-- they dropped. If a line was bad, or memory ran out in a line, these are the identities that the
-- lines before it dropped, and those that the line itself dropped before it stopped. If memory ran
-- out, there is no room for another identity.
abbrev pub HasDropped : StreamParams → List ℕ → List History → Report → DroppedIdsValue → Type 0
HasDropped params bytes blocks report dropped =
    HasDroppedBy report.ending params bytes blocks report dropped

-- `HasDropped` for each of these streams, the first of which is stream s, with blocks of events for
-- which `AreOwn` holds
abbrev pub HaveDropped : RunParamsValue → (ℕ → List History → Type 0) → ℕ → List Stream
    → List Report → List DroppedIdsValue → Type 0
HaveDropped run_params AreOwn s streams reports all = EachOfThree (λ t stream report dropped.
    (blocks : List History) × AreOwn t blocks
    × HasDropped (stream_params run_params t) stream.bytes blocks report dropped)
    s streams reports all
