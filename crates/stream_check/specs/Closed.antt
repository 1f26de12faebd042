-- Closed sets of streams: no stream of the set cites an identity of a stream outside it (this
-- project's own).
use Rattle.std.specs.Prelude.{◌≡◌, ◌-◌, ◌<◌, ℕ, Bool, IsTrue, List, Some, slice_get}
use Rattle.std.specs.List.{AllByRecursion}
use Rattle.lrup_model.specs.Layout.{LayoutValue, Owns}
use Rattle.lrup_text.specs.Lines.{StreamLine, Cut}
use Rattle.stream_check.specs.Laws.{cited_by}
use Rattle.stream_check.specs.Streams.{Stream}

-- in a list with one element for each stream, from stream 1 on, `x` is the element of stream s
abbrev pub IsOfStream : {X : Type 0} → List X → ℕ → X → Type 0
IsOfStream xs s x = (0 < s) × (slice_get xs (s - 1) ≡ Some x)

-- no stream outside the set owns the identity
abbrev pub IsOwnedWithin : LayoutValue → (ℕ → Bool) → ℕ → Type 0
IsOwnedWithin layout set id = (t : ℕ) → Owns layout t id → IsTrue (set t)

-- no line in the bytes cites an identity that a stream outside the set owns
pub record CiteWithin (layout : LayoutValue) (set : ℕ → Bool) (bytes : List ℕ) : Type 0 where
  pub lines : List StreamLine
  pub rest : List ℕ
  pub cut : Cut bytes lines rest
  pub within :
      AllByRecursion (λ line. AllByRecursion (IsOwnedWithin layout set) (cited_by line)) lines

-- The set is closed: in the bytes by which its streams are judged, they cite no identity of a
-- stream outside the set.
abbrev pub IsClosed : LayoutValue → (ℕ → Bool) → List Stream → Type 0
IsClosed layout set streams =
    (s : ℕ) (stream : Stream) → IsTrue (set s) → IsOfStream streams s stream
    → CiteWithin layout set stream.bytes
