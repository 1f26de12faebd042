-- Lemmas about the streams of a run, about indices in lists of streams, and about the blocks of one
-- stream.
use Rattle.std.proofs.Common.{◌≡◌, ◌∙◌, ◌++◌, ℕ, ◌+◌, zero, suc, Bool, List, [], ◌∷◌, Option, Some, None, length, map, eqb, refl, sym, ap, subst, append_assoc, eq-eqb, ne_eqb}
use Rattle.std.specs.Prelude.{IfSome, slice_get}
use Rattle.std.specs.List.{AllZip}
use Rattle.std.specs.Io.KnownBytes.{Consumes}
use Rattle.std.proofs.lemmas.Bool.{cond-true, cond-false}
use Rattle.lrup_model.specs.Event.{History}
use Rattle.lrup_text.specs.ReadOut.{SourceView}
use Rattle.lrup_text.specs.declared.device.StreamEnd.{StreamEnd}
use Rattle.lrup_text.specs.declared.device.StreamEnd.TheVariants as stream_ends
use Rattle.stream_check.specs.declared.report.Report.{Report}
use Rattle.stream_check.specs.StreamParams.{StreamParams}
use Rattle.stream_check.specs.Judging.{joined, JudgesBlocks}
use Rattle.stream_check.specs.Closed.{IsOfStream}
use Rattle.stream_check.specs.lemmas.EachLemmas.{each_count, zip_count}
use Rattle.stream_check.specs.SequentialConsistency.{AreJudgedIn}
use Rattle.stream_check.specs.Readings.{AreRead}
use Rattle.stream_check.specs.Streams.{RunParamsValue, Stream, InputObservation, observation_of, observations, MatchesInput, JudgesStream, Block, blocks_of}

-- a list has only one element for each stream
pub same_at : {X : Type 0} (xs : List X) (s : ℕ) (x y : X)
    → IsOfStream xs s x → IsOfStream xs s y → x ≡ y
same_at xs s x y a b = let e : Some x ≡ Some y = sym a.1 ∙ b.1 in cc

pub observed_count : (observed : List InputObservation) (streams : List Stream)
    → AllZip MatchesInput observed streams
    → length streams ≡ length observed
observed_count observed streams match_inputs = zip_count MatchesInput observed streams match_inputs

-- if the readers' reads gave streams, there is one observation for each reader
pub observed_as_many : {S : Type 0} (view : SourceView S) (firsts lasts : List S)
    (streams : List Stream) → AreRead S view.reads firsts lasts streams
    → length (observations view firsts lasts) ≡ length firsts
observed_as_many view [] [] [] read = refl
observed_as_many view (first ∷ firsts) (last ∷ lasts) (stream ∷ streams) read =
    ap suc (observed_as_many view firsts lasts streams read.1)
observed_as_many view _ _ _ read = absurd read

-- the bytes observed at first are those that the reader is known to have left before its reads
pub observation_at : {S : Type 0} (view : SourceView S) (firsts lasts : List S)
    (streams : List Stream)
    → AreRead S view.reads firsts lasts streams
    → (k : ℕ) (entry : Option (List ℕ)) → slice_get (map view.left firsts) k ≡ Some entry
    → (observation : InputObservation)
    × (slice_get (observations view firsts lasts) k ≡ Some observation)
    × (observation.entry ≡ entry)
observation_at view [] [] [] read k entry at = absurd (cc)
observation_at view (first ∷ firsts) (last ∷ lasts) (stream ∷ streams) read zero entry at =
    (observation_of view first last, refl, cc)
observation_at view (first ∷ firsts) (last ∷ lasts) (stream ∷ streams) read (suc k) entry at =
    observation_at view firsts lasts streams read.1 k entry at
observation_at view _ _ _ read k entry at = absurd read

-- the stream matches what is observed of the reader at this index
pub record WasMatched (observed : List InputObservation) (k : ℕ) (stream : Stream) : Type 0 where
  pub observation : InputObservation
  pub at : slice_get observed k ≡ Some observation
  pub matches_input : MatchesInput observation stream

pub observed_from : (observed : List InputObservation) (streams : List Stream) (k : ℕ)
    (stream : Stream)
    → AllZip MatchesInput observed streams → slice_get streams k ≡ Some stream
    → WasMatched observed k stream
observed_from [] [] k stream match_inputs at = absurd (cc)
observed_from (t ∷ ts) (s ∷ ss) zero stream match_inputs at =
    let same : s ≡ stream = cc in
    record {
      observation = t;
      at = refl;
      matches_input = subst (MatchesInput t) same
          match_inputs.0;
    }
observed_from (t ∷ ts) (s ∷ ss) (suc k) stream match_inputs at =
    let was = observed_from ts ss k stream match_inputs.1 at in
    record { observation = was.observation; at = was.at; matches_input = was.matches_input }
observed_from _ _ k stream match_inputs at = absurd match_inputs

begins : (left : Option (List ℕ)) (whole bytes unneeded : List ℕ)
    → Consumes (Some whole) left (bytes ++ unneeded) → (rest : List ℕ) × (whole ≡ bytes ++ rest)
begins None whole bytes unneeded consumes = absurd consumes
begins (Some left) whole bytes unneeded consumes =
    (unneeded ++ left, consumes ∙ append_assoc bytes unneeded left)

-- the bytes that were left at first begin with those that were needed
pub observed_begins : (observation : InputObservation) (whole : List ℕ) (stream : Stream)
    → MatchesInput observation stream → observation.entry ≡ Some whole
    → (rest : List ℕ) × (whole ≡ stream.bytes ++ rest)
observed_begins observation whole stream observed entry =
    begins observation.left whole stream.bytes stream.unneeded
    (subst (λ (e : Option (List ℕ)). Consumes e observation.left (stream.bytes ++ stream.unneeded)) entry observed.consumes)

-- an end that the stream may have
its_end : (its : Option StreamEnd) → (end : StreamEnd) × IfSome its (λ e. e ≡ end)
its_end None = (stream_ends.Ended, tt)
its_end (Some end) = (end, refl)

-- for some end, these blocks judge the stream
pub some_end : (c : StreamParams) (stream : Stream) (blocks : List History) (report : Report)
    → JudgesStream c stream blocks report
    → (end : StreamEnd) × JudgesBlocks c stream.bytes end blocks report
some_end c stream blocks report judged =
    let end = its_end stream.end in (end.0, judged end.0 end.1)

-- these events judge the stream
abbrev pub IsJudgedBy : StreamParams → Stream → History → Report → Type 0
IsJudgedBy c stream es report =
    (blocks : List History) × (es ≡ joined blocks) × JudgesStream c stream blocks report

-- a stream that was read to this end has this judgement
pub judged_out : (c : StreamParams) (bytes unneeded : List ℕ) (end : StreamEnd)
    (blocks : List History)
    (report : Report)
    → JudgesBlocks c bytes end blocks report
    → JudgesStream c (record { bytes = bytes; unneeded = unneeded; end = Some end }) blocks report
judged_out c bytes unneeded end blocks report judges =
    λ other same. subst (λ (e : StreamEnd). JudgesBlocks c bytes e blocks report) same judges

pub blocks-same : (block : Block) (blocks : List Block) (s : ℕ) → block.stream ≡ s
    → blocks_of s (block ∷ blocks) ≡ block.events ∷ blocks_of s blocks
blocks-same block blocks s same = cond-true (eqb block.stream s) (block.events ∷ blocks_of s blocks) (blocks_of s blocks) (eq-eqb block.stream s same)

pub blocks-other : (block : Block) (blocks : List Block) (s : ℕ) → (block.stream ≡ s → ⊥)
    → blocks_of s (block ∷ blocks) ≡ blocks_of s blocks
blocks-other block blocks s other = cond-false (eqb block.stream s) (block.events ∷ blocks_of s blocks) (blocks_of s blocks) (ne_eqb block.stream s other)

-- there are as many reports as streams
pub judged_count : (run_params : RunParamsValue) (set : ℕ → Bool) (h : History) (s : ℕ)
    (streams : List Stream) (reports : List Report) → AreJudgedIn run_params set h s streams reports
    → length reports ≡ length streams
judged_count run_params set h s streams reports judged = each_count _ s streams reports judged
