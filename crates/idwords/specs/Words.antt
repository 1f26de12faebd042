-- Words of the shared row: an identity's state, length and start, or the codes of two literals
-- (this project's own).
use Rattle.std.specs.Prelude.{◌≡◌, ◌+◌, ◌/◌, ◌%◌, ◌<◌, ◌==◌, ℕ, ℤ, [], ◌∷◌, Option, None, Some, length, if◌then◌else◌}
use Rattle.lrup_model.specs.Clause.{Clause}
use Rattle.lrup_model.specs.Event.{Reply, vacant, live, retired}
use Rattle.lrup_model.specs.CallerView.{StoredClause, literals_in}

abbrev pub word_state : ℕ → ℕ
word_state word = word % 4

abbrev pub length_of : ℕ → ℕ
length_of word = word / 4 % 1048576

abbrev pub start_of : ℕ → ℕ
start_of word = word / 4194304

-- one literal, or two if there is a second one
abbrev pub pair_of : ℤ → Option ℤ → Clause
pair_of l None = l ∷ []
pair_of l (Some other) = l ∷ other ∷ []

-- half 0 of a word is its lower 32 bits, half 1 its upper 32 bits
abbrev pub half_of : ℕ → ℕ → ℕ
half_of half word = (if half == 0 then word % 4294967296 else word / 4294967296)

-- how many words this many literals take
abbrev pub words_for : ℕ → ℕ
words_for literals = (literals + 1) / 2

-- The word shows what is stored for its identity: it is vacant if nothing is stored; otherwise it
-- has the length and the start of the stored clause.
abbrev pub ShowsStored : Option StoredClause → ℕ → Type 0
ShowsStored None word = word_state word ≡ 0
ShowsStored (Some stored) word = (0 < word_state word) × (word_state word < 3)
    × (length_of word ≡ length stored.literals) × (start_of word ≡ stored.start)

-- the reply to a fetch that loads this word, if `stored` is what is stored for the identity
abbrev pub reply_in : Option StoredClause → ℕ → Reply
reply_in stored word =
    if word_state word == 0 then vacant
    else if word_state word == 1 then live (literals_in stored)
    else retired
