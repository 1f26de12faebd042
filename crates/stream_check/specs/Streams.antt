-- What is observed of a run's streams, and in which order of lines their reports are right (this
-- project's own).
use Rattle.std.specs.Prelude.{◌≡◌, ◌++◌, ◌==◌, ℕ, Bool, false, IsTrue, List, [], ◌∷◌, Option, IsSome, IfSome, MatchOption, if◌then◌else◌, length}
use Rattle.std.specs.Io.KnownBytes.{Consumes}
use Rattle.std.specs.List.{AllByRecursion, flat_map}
use Rattle.lrup_model.specs.Formula.{Cnf}
use Rattle.lrup_model.specs.Cube.{CubeValue}
use Rattle.lrup_model.specs.Layout.{LayoutValue, IsStream}
use Rattle.lrup_model.specs.Event.{History, stream_of}
use Rattle.lrup_model.specs.History.{IsLegal}
use Rattle.lrup_text.specs.ReadOut.{EndsSo, SourceView}
use Rattle.lrup_text.specs.declared.device.StreamEnd.{StreamEnd}
use Rattle.stream_check.specs.declared.report.Report.{Report}
use Rattle.stream_check.specs.StreamParams.{StreamParams}
use Rattle.stream_check.specs.Judging.{JudgesBlocks}
use Rattle.stream_check.specs.Each.{Each}

-- The bytes by which a stream is judged; the bytes that were read after them, which don't matter;
-- and how the stream ended (at its end, or because a read failed), or `None` if the judgement needs
-- no end, for example because the stream was stopped early.
pub record Stream : Type 0 where
  pub bytes : List ℕ
  pub unneeded : List ℕ
  pub end : Option StreamEnd

-- What is observed of a reader: the bytes left at first, if they are known; the bytes left at the
-- end, if they are known; and whether the reader has failed by then.
pub record InputObservation : Type 0 where
  pub entry : Option (List ℕ)
  pub left : Option (List ℕ)
  pub has_failed : Bool

-- what is observed of a reader: `first` is the reader before any read, `last` the reader at the end
abbrev pub observation_of : {S : Type 0} → SourceView S → S → S → InputObservation
observation_of view first last = record {
  entry = view.left first;
  left = view.left last;
  has_failed = view.has_failed last;
}

-- what is observed of each of these readers
abbrev pub observations : {S : Type 0} → SourceView S → List S → List S → List InputObservation
observations view [] lasts = []
observations view (first ∷ firsts) [] = []
observations view (first ∷ firsts) (last ∷ lasts) =
    observation_of view first last ∷ observations view firsts lasts

-- The stream matches what is observed of a reader: the bytes read are a prefix of those left at
-- first. If the stream has an end, the reader is in the state that this end implies, and the stream
-- is judged by all that was read; otherwise the reader hasn't failed. If what the reader has left
-- is unknown, any bytes match.
pub record MatchesInput (observation : InputObservation) (stream : Stream) : Type 0 where
  pub consumes : Consumes observation.entry observation.left (stream.bytes ++ stream.unneeded)
  pub ends : MatchOption stream.end (observation.has_failed ≡ false)
      (λ end. EndsSo end observation.left observation.has_failed)
  pub needed : IsSome stream.end → stream.unneeded ≡ []

-- The stream is judged by these blocks of events. A stream whose `end` is `None` is judged in this
-- way however it ends.
abbrev pub JudgesStream : StreamParams → Stream → List History → Report → Type 0
JudgesStream params stream blocks report =
    (end : StreamEnd) → IfSome stream.end (λ known. known ≡ end)
    → JudgesBlocks params stream.bytes end blocks report

-- An order of lines

-- all events of one line, and the number (from 1) of the stream that wrote the line
pub record Block : Type 0 where
  pub stream : ℕ
  pub events : History

-- the blocks of one stream, in order
abbrev pub blocks_of : ℕ → List Block → List History
blocks_of s [] = []
blocks_of s (block ∷ blocks) =
    if block.stream == s then block.events ∷ blocks_of s blocks else blocks_of s blocks

-- the events of all blocks, in order
abbrev pub events_in : List Block → History
events_in blocks = flat_map (λ block. block.events) blocks

-- the block belongs to a stream of the layout and of the set, and its events are that stream's
abbrev pub IsBlockWithin : LayoutValue → (ℕ → Bool) → Block → Type 0
IsBlockWithin layout set block =
    IsStream layout block.stream × IsTrue (set block.stream)
    × AllByRecursion (λ event. stream_of event ≡ block.stream) block.events

-- The parameters with which all streams of a run are checked: the layout, the cube, and how many
-- times an identity of another stream is fetched again.
pub record RunParamsValue : Type 0 where
  pub layout : LayoutValue
  pub cube : CubeValue
  pub tries : ℕ

-- the parameters of stream s in this run
abbrev pub stream_params : RunParamsValue → ℕ → StreamParams
stream_params run_params s =
    record {
      layout = run_params.layout;
      cube = run_params.cube;
      stream = s;
      tries = run_params.tries;
    }

-- The first of these streams is stream s. Each stream that is in the set is judged, as its report
-- says, by blocks of events for which `AreOwn` holds. There are as many reports as streams.
abbrev pub AreJudged : RunParamsValue → (ℕ → Bool) → (ℕ → List History → Type 0) → ℕ → List Stream
    → List Report → Type 0
AreJudged run_params set AreOwn s streams reports =
    Each (λ t stream report. IsTrue (set t) → (blocks : List History) × AreOwn t blocks
    × JudgesStream (stream_params run_params t) stream blocks report) s streams reports

-- There is an order of lines for the reports of a set of streams: a legal history of whole lines of
-- these streams, with each stream's lines in order. Each stream is judged by its blocks in this
-- history, as its report says. There are as many streams as in the layout.
pub record IsOrdered (formula : Cnf) (run_params : RunParamsValue) (set : ℕ → Bool)
    (streams : List Stream)
    (reports : List Report) : Type 0 where
  pub count : length streams ≡ run_params.layout.streams
  pub blocks : List Block
  pub within : AllByRecursion (IsBlockWithin run_params.layout set) blocks
  pub legal : IsLegal formula run_params.layout (events_in blocks)
  pub judged : AreJudged run_params set (λ t own_blocks. own_blocks ≡ blocks_of t blocks) 1
      streams reports
