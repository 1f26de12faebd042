-- The words of the row at the opening (this project's own).
use Rattle.std.specs.Prelude.{◌+◌, ◌-◌, ◌*◌, ◌++◌, ℕ, List, [], ◌∷◌, length, replicate}
use Rattle.lrup_model.specs.Clause.{Clause}
use Rattle.lrup_model.specs.Formula.{Cnf}
use Rattle.lrup_model.specs.Layout.{LayoutValue, last_identity}
use Rattle.idwords.specs.internal.RowWords.{identity_word, packed}
use Rattle.idwords.specs.Words.{words_for}

-- the words of the identities of live clauses; their literals are stored from this index on, one
-- clause after the other
abbrev pub clause_words : ℕ → List Clause → List ℕ
clause_words start [] = []
clause_words start (clause ∷ clauses) =
    identity_word 1 (length clause) start ∷ clause_words (start + words_for (length clause)) clauses

abbrev pub literal_words : List Clause → List ℕ
literal_words [] = []
literal_words (clause ∷ clauses) = packed clause ++ literal_words clauses

-- word 0, the formula's identities, the streams' vacant identities, the formula's literals, and
-- zeros to the end of the row: words that aren't needed because a word holds two literals, and the
-- streams' rooms
abbrev pub opening_words : Cnf → LayoutValue → List ℕ
opening_words formula layout =
    0 ∷ clause_words (1 + last_identity layout) formula.clauses
    ++ replicate (layout.streams * layout.lines) 0
    ++ literal_words formula.clauses
    ++ replicate
    (layout.literals + layout.streams * layout.room - length (literal_words formula.clauses)) 0
