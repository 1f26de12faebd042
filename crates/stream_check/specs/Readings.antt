-- Which reads the streams of a run come from (this project's own).
use Rattle.std.specs.Prelude.{◌++◌, List, [], ◌∷◌, MatchOption}
use Rattle.lrup_text.specs.declared.device.Source as Source
use Rattle.lrup_text.specs.ReadOut.{ReadOut, SourceView, source_view}
use Rattle.lrup_text.specs.Reads.{Gave, ReadsOf}
use Rattle.stream_check.specs.Streams.{Stream, MatchesInput, observation_of}

-- what contracts know of readers of one type
abbrev pub readers_view : {R : Type 0} → Source.Ghosts R → SourceView R
readers_view its = source_view its.left its.has_failed its.reads

-- The stream is what the reads of a reader gave, from the first one on. If the stream has an end,
-- its bytes are all that the reads gave, up to the first end or to the read that failed; otherwise
-- the reads gave its bytes, followed by `unneeded`.
abbrev pub IsRead : (S : Type 0) → ReadsOf S → S → S → Stream → Type 0
IsRead S reads first after stream =
    MatchOption stream.end (Gave S reads first (stream.bytes ++ stream.unneeded) after)
    (λ end. ReadOut S reads end first stream.bytes after)

-- the stream matches what is observed of a reader, and what its reads gave
abbrev pub IsStreamOf : {S : Type 0} → SourceView S → S → S → Stream → Type 0
IsStreamOf {S} view first last stream =
    MatchesInput (observation_of view first last) stream × IsRead S view.reads first last stream

-- each stream is what the reads of its reader gave; the first list has the readers before their
-- first reads, and the second has them after their last
abbrev pub AreRead : (S : Type 0) → ReadsOf S → List S → List S → List Stream → Type 0
AreRead S reads [] [] [] = Unit {0}
AreRead S reads (first ∷ firsts) (last ∷ lasts) (stream ∷ streams) =
    IsRead S reads first last stream × AreRead S reads firsts lasts streams
AreRead S reads _ _ _ = ⊥
