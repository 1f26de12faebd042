-- The printed text of a checkpoint (DIMACS CNF; the exact spelling is this project's own).
use Rattle.std.specs.Prelude.{◌≡◌, ◌<◌, ◌+◌, ◌==◌, ℕ, List, [], ◌∷◌, ◌++◌, codes, length, flat_map, if◌then◌else◌}
use Rattle.std.specs.Fmt.{decimal, signed_decimal}
use Rattle.lrup_model.specs.Clause.{Clause}
use Rattle.lrup_model.specs.Formula.{Cnf, IsCnf}
use Rattle.dimacs.specs.FormulaText.{IsFormulaText}
use Rattle.checkpoint.specs.Live.{Entry, clauses_of}

-- the header, with the numbers of variables and of clauses
abbrev pub header_line : ℕ → ℕ → List ℕ
header_line vars count =
    codes "p cnf " ++ decimal vars ++ codes " " ++ decimal count ++ codes "\n"

-- a comment with the clause's identity, unless the identity is the clause's number in the file
unfoldable pub note : ℕ → ℕ → List ℕ
note id place = if id == place then [] else codes "c id " ++ decimal id ++ codes "\n"

-- the literals, each with a space after it, then 0
unfoldable pub clause_line : Clause → List ℕ
clause_line clause = flat_map (λ l. signed_decimal l ++ codes " ") clause ++ codes "0\n"

-- the note and the line of the clause with number `place`
abbrev pub entry_text : ℕ → Entry → List ℕ
entry_text place entry = note entry.id place ++ clause_line entry.clause

-- the notes and lines of clauses, the first of which has number `place`
abbrev pub entries_text : ℕ → List Entry → List ℕ
entries_text place [] = []
entries_text place (entry ∷ entries) = entry_text place entry ++ entries_text (place + 1) entries

-- the header, and the text of each clause; the first clause has number 1
unfoldable pub formula_text : ℕ → List Entry → List ℕ
formula_text vars entries = header_line vars (length entries) ++ entries_text 1 entries

-- the printed formula
abbrev pub printed : ℕ → List Entry → Cnf
printed vars entries = record { vars = vars; clauses = clauses_of entries }

-- Laws

-- the printed text is a text of the formula
abbrev pub PrintedIsRead : Type 0
PrintedIsRead = (vars : ℕ) (entries : List Entry) → IsCnf (printed vars entries)
    → IsFormulaText (formula_text vars entries) (printed vars entries)

-- if more than the last byte is missing, the rest of the text isn't the text of any formula
abbrev pub ABeginningIsNoText : Type 0
ABeginningIsNoText = (vars : ℕ) (entries : List Entry) → IsCnf (printed vars entries)
    → (went rest : List ℕ) → formula_text vars entries ≡ went ++ rest → 1 < length rest
    → (formula : Cnf) → ¬ IsFormulaText went formula
