-- What a stream knows after a call of the row (this project's own).
use Rattle.std.specs.Prelude.{◌≡◌, ◌+◌, ◌/◌, ◌%◌, ◌++◌, ℕ, ℤ, List, [], ◌∷◌, Some, length, slice_get}
use Rattle.lrup_model.specs.Clause.{Clause}
use Rattle.lrup_model.specs.Event.{Event, History}
use Rattle.lrup_model.specs.Layout.{row_words}
use Rattle.lrup_model.specs.CallerView.{StoredClause}
use Rattle.lrup_model.specs.Pass.{View, Spelling, IsFair, PassMoves, stored_in}
use Rattle.lrup_model.specs.declared.clause_map.Published.{Published}
use Rattle.lrup_model.specs.declared.clause_map.Published.TheVariants as publishing
use Rattle.lrup_model.specs.Literal.{code_of}
use Rattle.idwords.specs.Words.{words_for, half_of}
use Rattle.idwords.specs.Spelling.{LieWithin}

-- The pass made one call, which is the last event that it has seen. It is fair, and its clauses are
-- inside the row.
pub record Calls (old new : View) (event : Event) : Type 0 where
  pub moves : PassMoves old new (event ∷ [])
  pub last : (before : History) × (new.seen ≡ before ++ event ∷ [])
  pub fair : IsFair new
  pub within : LieWithin (row_words new.caller.layout) new.spelt

-- If a literal of a stored clause is in this word of the row, the word has the literal's code: in
-- half 0 if the literal's index in the clause is even, otherwise in half 1.
abbrev pub IsText : List Spelling → ℕ → ℕ → Type 0
IsText spellings place word =
    (id k : ℕ) (stored : StoredClause) (l : ℤ) → stored_in spellings id ≡ Some stored
    → slice_get stored.literals k ≡ Some l → place ≡ stored.start + k / 2
    → half_of (k % 2) word ≡ code_of l

-- the top after this reply to a publish of the draft
abbrev pub top_after_reply : Published → ℕ → Clause → ℕ
top_after_reply publishing.Done top draft = top + words_for (length draft)
top_after_reply publishing.Taken top draft = top
