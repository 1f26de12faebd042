-- Reads of a source, one after another, and what they gave.
use Rattle.std.specs.Prelude.{◌≡◌, ◌<◌, ◌≤◌, ℕ, List, [], length, Option, None, Some}
use Rattle.std.specs.Io.KnownBytes.{Consumes, IsAtEnd, Keeps}
use Rattle.std.specs.List.{FoldsTo, concat}

-- the effect of a read: the source before, the buffer's length, the bytes given, and the source
-- after
abbrev pub ReadsOf : Type 0 → Type 1
ReadsOf S = S → ℕ → Option (List ℕ) → S → Type 0

-- The effect of a read on the bytes left, if they are known: it gives the next bytes, at most as
-- many as it asks for, and these are no longer left. It gives no bytes only at the end, or if it
-- asks for none. A failed read leaves all bytes.
abbrev pub GivesLeft : Option (List ℕ) → ℕ → Option (List ℕ) → Option (List ℕ) → Type 0
GivesLeft before room None after = Keeps before after
GivesLeft before room (Some piece) after = Consumes before after piece × (length piece ≤ room)
    × (piece ≡ [] → 0 < room → IsAtEnd after)

-- Reads that each gave some bytes, with buffers of any length, led from the source `first` to
-- `last`. Together they gave these bytes.
pub record Gave (S : Type 0) (reads : ReadsOf S) (first : S) (bytes : List ℕ)
    (last : S) : Type 0 where
  pub pieces : List (List ℕ)
  pub calls : FoldsTo (λ source piece after.
      (room : ℕ) × reads source room (Some piece) after × (0 < length piece)) first pieces last
  pub whole : bytes ≡ concat pieces

-- Reads gave these bytes of a source, up to its first end: the next read gave none, although its
-- buffer had room.
pub record GaveAll (S : Type 0) (reads : ReadsOf S) (first : S) (bytes : List ℕ) : Type 0 where
  pub last : S
  pub given : Gave S reads first bytes last
  pub room : ℕ
  pub some : 0 < room
  pub after : S
  pub end : reads last room (Some []) after
