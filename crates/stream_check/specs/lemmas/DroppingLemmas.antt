-- What the streams of a run dropped, derived from what is known of each stream.
use Rattle.std.proofs.Common.{◌≡◌, ◌∙◌, ◌+◌, inl, ℕ, List, [], ◌∷◌, Option, None, refl, sym, ap}
use Rattle.std.proofs.Common.{subst}
use Rattle.std.proofs.lemmas.List.{append-nil}
use Rattle.lrup_model.specs.Event.{History}
use Rattle.lrup_text.specs.declared.device.StreamEnd.{StreamEnd}
use Rattle.lrup_text.specs.declared.device.StreamEnd.TheVariants as stream_ends
use Rattle.stream_check.specs.declared.report.Ending.{Ending}
use Rattle.stream_check.specs.declared.report.Ending.TheVariants as endings
use Rattle.stream_check.specs.declared.report.Report.{Report}
use Rattle.stream_check.specs.Checker.{checker_state, going_of, state_by}
use Rattle.stream_check.specs.CheckerValue.{Tally, report_of_tally, CheckerValue}
use Rattle.stream_check.specs.Judging.{ending_at}
use Rattle.stream_check.specs.Reaching.{GoingState, ReachesState, ReachesGoing}
use Rattle.stream_check.specs.DroppedIdsValue.{DroppedIdsValue}
use Rattle.stream_check.specs.StreamParams.{StreamParams}
use Rattle.stream_check.specs.StreamContext.{is_among, context_of}
use Rattle.stream_check.specs.Stopping.{DropsUntilStop, IsFullAtMemory}
use Rattle.stream_check.specs.lemmas.StoppingLemmas.{drops_none}
use Rattle.stream_check.specs.Streams.{Stream, RunParamsValue}
use Rattle.stream_check.specs.Dropping.{AreDroppedBy, HasDropped, HaveDropped}

-- if a checker is unfinished, all lines were good, and it has dropped what these lines drop
good_drops : (c : StreamParams) (bytes : List ℕ) (blocks : List History) (now : GoingState)
    (ids : List ℕ) → ReachesGoing c bytes blocks now
    → ((id : ℕ) → is_among ids id ≡ now.context.is_dropped id) → AreDroppedBy c bytes blocks ids
good_drops c bytes blocks now ids left same =
    record {
      lines = left.lines;
      rest = now.pending;
      cut = left.cut;
      good = left.good;
      are = λ id.
          same id ∙ left.context.is_dropped id;
    }

-- what an unfinished checker dropped, if the stream ends; a line that is cut off drops nothing
ended_by : (end : StreamEnd) (rest : List ℕ) (c : StreamParams) (bytes : List ℕ)
    (blocks : List History) (now : GoingState)
    (dropped : DroppedIdsValue)
    → ReachesGoing c bytes blocks now → ((id : ℕ)
    → is_among dropped.ids id ≡ now.context.is_dropped id)
    → HasDropped c bytes blocks (report_of_tally now.tally (ending_at end rest now.line)) dropped
ended_by stream_ends.Ended [] c bytes blocks now dropped left same = good_drops c bytes blocks now
    dropped.ids left same
ended_by stream_ends.Ended (byte ∷ rest) c bytes blocks now dropped left same = record {
  lines = left.lines;
  rest = now.pending;
  front = blocks;
  back = [];
  split = sym (append-nil blocks);
  good = left.good;
  text = left.cut.bytes;
  fits = left.cut.each;
  number = left.line;
  ids = [];
  are_first = inl refl;
  count = ap (λ (r : Report). r.deleted) (left.tally (ending_at stream_ends.Ended
      (byte ∷ rest) now.line));
  drops = λ id. same id ∙ left.context.is_dropped id ∙ drops_none c
      (context_of c left.lines).is_dropped id;
}
ended_by stream_ends.Failed rest c bytes blocks now dropped left same = good_drops c bytes blocks
    now dropped.ids left same

-- what an unfinished checker has dropped when the stream ends in this way
pub going_drops : (c : StreamParams) (v : CheckerValue) (room : ℕ) (bytes : List ℕ)
    (blocks : List History) (end : StreamEnd)
    → v.ending ≡ None → ReachesState c bytes blocks (checker_state v room)
    → HasDropped c bytes blocks (report_of_tally v.tally (ending_at end v.pending v.line)) v.dropped
going_drops c v room bytes blocks end going reaches = ended_by end v.pending c bytes blocks
    (going_of v room) v.dropped
    (subst (λ (e : Option Ending). ReachesState c bytes blocks (state_by v room e)) going reaches)
    (λ id. refl)

-- what a checker has dropped if a line stopped it
pub stopped_drops : (ending : Ending) (c : StreamParams) (bytes : List ℕ) (blocks : List History)
    (tally : Tally)
    (dropped : DroppedIdsValue)
    → DropsUntilStop c bytes blocks (report_of_tally tally ending) (is_among dropped.ids)
    → IsFullAtMemory ending dropped
    → HasDropped c bytes blocks (report_of_tally tally ending) dropped
stopped_drops endings.Ended c bytes blocks tally dropped drops full = absurd drops.number
stopped_drops (endings.Bad line fault) c bytes blocks tally dropped drops full = drops
stopped_drops (endings.ReadFailed line) c bytes blocks tally dropped drops full = absurd
    drops.number
stopped_drops (endings.Memory line) c bytes blocks tally dropped drops full =
    (drops, full line refl)

-- `HaveDropped` still holds with a weaker fact about the blocks
pub dropped_more : (run_params : RunParamsValue) (P Q : ℕ → List History → Type 0)
    → ((t : ℕ) (blocks : List History) → P t blocks → Q t blocks)
    → (s : ℕ) (streams : List Stream) (reports : List Report) (all : List DroppedIdsValue)
    → HaveDropped run_params P s streams reports all
    → HaveDropped run_params Q s streams reports all
dropped_more run_params P Q more s [] [] [] have = tt
dropped_more run_params P Q more s (stream ∷ streams) (report ∷ reports) (dropped ∷ all) have = (
  (have.0.0, more s have.0.0 have.0.1, have.0.2),
  dropped_more run_params P Q more
      (s + 1) streams reports all have.1,
)
dropped_more run_params P Q more s _ _ _ have = absurd have
