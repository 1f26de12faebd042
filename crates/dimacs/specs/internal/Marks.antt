-- A mark for each literal of a clause: the bit whose index in an array of words is the literal's
-- code.
use Rattle.std.specs.Prelude.{◌≡◌, ◌↔◌, ◌/◌, ◌%◌, ◌≤◌, ℕ, ℤ, Bool, true, false, List, [], length, slice_index}
use Rattle.std.specs.Int.{bit_at}
use Rattle.lrup_model.specs.Literal.{code_of}
use Rattle.lrup_model.specs.Clause.{Has}

-- the bit at this index is set
unfoldable pub IsBitSet : List ℕ → ℕ → Type 0
IsBitSet words place = bit_at (slice_index words (place / 64)) (place % 64) ≡ 1

-- exactly the clause's literals are marked
abbrev pub MarksAre : List ℕ → List ℤ → Type 0
MarksAre words clause = (l : ℤ) → IsBitSet words (code_of l) ↔ Has clause l

-- the number of words in which each literal has a bit
abbrev pub all_words : ℕ
all_words = 524288

-- if `true`, each literal has a bit, and exactly the clause's literals are marked; if `false`, no
-- mark is set
abbrev pub MarksFit : Bool → List ℕ → List ℤ → Type 0
MarksFit true words clause = MarksAre words clause × (all_words ≤ length words)
MarksFit false words clause = MarksAre words []
