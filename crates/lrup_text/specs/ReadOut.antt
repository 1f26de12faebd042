-- What is known of the sources of a type, and the reads of one source up to its last read.
use Rattle.std.specs.Prelude.{◌≡◌, ◌<◌, ℕ, Bool, true, false, List, [], Option, Some, None}
use Rattle.std.specs.Io.KnownBytes.{IsAtEnd}
use Rattle.lrup_text.specs.declared.device.StreamEnd.{StreamEnd}
use Rattle.lrup_text.specs.declared.device.StreamEnd.TheVariants as stream_ends
use Rattle.lrup_text.specs.Reads.{Gave, ReadsOf}

-- What contracts know of each source: the bytes left, if known; whether a read has failed; and the
-- effect of a read.
pub record SourceView (S : Type 0) : Type 1 where
  pub left : S → Option (List ℕ)
  pub has_failed : S → Bool
  pub reads : ReadsOf S

-- the view with these three parts
abbrev pub source_view : {S : Type 0} → (S → Option (List ℕ)) → (S → Bool) → ReadsOf S
    → SourceView S
source_view left has_failed reads =
    record { left = left; has_failed = has_failed; reads = reads }

-- What is known of a source after a stream with this end: if the stream ended normally, no byte is
-- left and the source hasn't failed; otherwise the source has failed.
abbrev pub EndsSo : StreamEnd → Option (List ℕ) → Bool → Type 0
EndsSo stream_ends.Ended left has_failed = IsAtEnd left × (has_failed ≡ false)
EndsSo stream_ends.Failed left has_failed = has_failed ≡ true

-- the last read of a source: one that failed, or one that gave nothing although its buffer had room
abbrev pub IsLastRead : (S : Type 0) → ReadsOf S → StreamEnd → S → S → Type 0
IsLastRead S reads stream_ends.Failed before after = (room : ℕ) × reads before room None after
IsLastRead S reads stream_ends.Ended before after =
    (room : ℕ) × (0 < room) × reads before room (Some []) after

-- Reads of a source, from the first one on, gave these bytes together, and then came one last read.
pub record ReadOut (S : Type 0) (reads : ReadsOf S) (end : StreamEnd) (first : S) (bytes : List ℕ)
    (after : S) : Type 0 where
  pub last : S
  pub given : Gave S reads first bytes last
  pub ends : IsLastRead S reads end last after
