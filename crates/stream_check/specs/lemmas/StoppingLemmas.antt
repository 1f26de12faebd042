-- Lemmas about what a stream dropped if one of its lines stopped it.
use Rattle.std.proofs.Common.{◌≡◌, ◌⊎◌, ◌||◌, ◌&&◌, ◌∙◌, ℕ, Bool, true, false, List, [], ◌++◌, inl, inr, refl, sym, ap, append_assoc}
use Rattle.std.specs.List.{flat_map}
use Rattle.lrup_model.specs.Event.{History}
use Rattle.lrup_text.specs.Lines.{StreamLine, IsWithinLimits, line_text}
use Rattle.stream_check.specs.declared.report.Report.{Report}
use Rattle.stream_check.specs.StreamParams.{StreamParams, ownership_of, is_shared}
use Rattle.stream_check.specs.Stopping.{DropsUntilStop}
use Rattle.stream_check.specs.StreamContext.{deleted_by}
use Rattle.stream_check.specs.internal.Checking.{DropsMore}

or_none : (before shared : Bool) → (before || shared && false) ≡ before
or_none true shared = refl
or_none false true = refl
or_none false false = refl

-- deleting no identities drops nothing
pub drops_none : (c : StreamParams) (is_dropped : ℕ → Bool) → DropsMore c is_dropped [] is_dropped
drops_none c is_dropped id = sym (or_none (is_dropped id) (is_shared (ownership_of c id)))

-- The list is empty, or its identities are the first of a deletion with which the bytes begin.
abbrev pub AreDeletedFirst : List ℕ → List ℕ → Type 0
AreDeletedFirst ids bytes =
    (ids ≡ [])
    ⊎ ((line : StreamLine) × IsWithinLimits line × (later more : List ℕ)
    × (bytes ≡ line_text line ++ more) × (deleted_by line ≡ ids ++ later))

first_longer : (ids bytes more : List ℕ) → AreDeletedFirst ids bytes
    → AreDeletedFirst ids (bytes ++ more)
first_longer ids bytes more (inl none) = inl none
first_longer ids bytes more (inr (line, fits, later, rest, text, deletes)) =
    inr (line, fits, later, rest ++ more, ap (λ (b : List ℕ). b ++ more) text ∙ append_assoc (line_text line) rest more, deletes)

-- what a stream dropped until a line stopped it doesn't depend on the bytes after that line
pub drops_longer : (c : StreamParams) (bytes more : List ℕ) (blocks : List History)
    (report : Report) (is_dropped : ℕ → Bool)
    → DropsUntilStop c bytes blocks report is_dropped
    → DropsUntilStop c (bytes ++ more) blocks report is_dropped
drops_longer c bytes more blocks report is_dropped d = record {
  lines = d.lines;
  front = d.front;
  back = d.back;
  split = d.split;
  good = d.good;
  rest = d.rest ++ more;
  text = ap (λ (b : List ℕ). b ++ more) d.text ∙ append_assoc (flat_map line_text d.lines) d.rest more;
  fits = d.fits;
  number = d.number;
  ids = d.ids;
  are_first = first_longer d.ids d.rest more d.are_first;
  count = d.count;
  drops = d.drops;
}
