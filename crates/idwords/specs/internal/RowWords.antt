-- How identities and literals are stored in words of the row, and where (this project's own).
use Rattle.std.specs.Prelude.{◌≡◌, ◌+◌, ◌*◌, ℕ, ℤ, List, [], ◌∷◌, Option, None, Some, length, slice_index}
use Rattle.lrup_model.specs.Clause.{Clause}
use Rattle.lrup_model.specs.State as states
use Rattle.lrup_model.specs.State.{Slot}
use Rattle.lrup_model.specs.CallerView.{StoredClause}
use Rattle.lrup_model.specs.Literal.{code_of}

-- an identity's word; state 0 is vacant, 1 live and 2 retired
abbrev pub identity_word : ℕ → ℕ → ℕ → ℕ
identity_word state len start = state + 4 * len + 4194304 * start

-- the word of an identity in this state, for which this clause, if any, is stored
abbrev pub stored_word : ℕ → Option StoredClause → ℕ
stored_word state None = 0
stored_word state (Some stored) = identity_word state (length stored.literals) stored.start

-- the word of an identity with this slot, for which this clause, if any, is stored
abbrev pub word_of : Slot → Option StoredClause → ℕ
word_of states.absent kept = 0
word_of (states.live clause) kept = stored_word 1 kept
word_of (states.retired clause) kept = stored_word 2 kept

-- the word of these literals: the code of the first in the lower half, the code of the second in
-- the upper
abbrev pub literal_word : ℤ → Option ℤ → ℕ
literal_word l None = code_of l
literal_word l (Some other) = code_of l + 4294967296 * code_of other

-- a clause's words, with two literals each, but one literal in the last word if the count is odd
abbrev pub packed : Clause → List ℕ
packed [] = []
packed (l ∷ []) = literal_word l None ∷ []
packed (l ∷ other ∷ clause) = literal_word l (Some other) ∷ packed clause

-- the row has these words from this index on
abbrev pub OccurAt : List ℕ → ℕ → List ℕ → Type 0
OccurAt words place [] = Unit {0}
OccurAt words place (word ∷ more) =
    (slice_index words place ≡ word) × OccurAt words (place + 1) more

-- the row has the clause's literals from this index on, in their order
abbrev pub LiesAt : List ℕ → ℕ → Clause → Type 0
LiesAt words place clause = OccurAt words place (packed clause)
