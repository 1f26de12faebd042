-- The rest of a file from some index on: definitions for this crate's own functions.
use Rattle.std.specs.Prelude.{◌≡◌, ◌⊎◌, ◌↔◌, ◌+◌, ◌<◌, ◌≤◌, ℕ, ℤ, pos, nat_abs, true, false, Some, None, List, [], ◌∷◌, ◌++◌, length, if◌then◌else◌}
use Rattle.std.specs.List.{slice_split}
use Rattle.lrup_model.specs.Literal.{IsLiteral, max_variable}
use Rattle.dimacs.specs.declared.tokens.Next.{Next}
use Rattle.dimacs.specs.declared.tokens.Next.TheVariants.{End, Bad, Range, Zero, Literal}
use Rattle.dimacs.specs.Lines.{Line, Token, ends_line, is_separator, is_empty, runs, lines_from, all_tokens}
use Rattle.dimacs.specs.Numerals.{is_numeral, is_count, value, number_of}
use Rattle.dimacs.specs.FormulaTokens.{IsHeader, TokensSpell, IsSetOf, AreSetsOf}
use Rattle.dimacs.specs.FormulaFault.{IsHeaderFault}
use Rattle.dimacs.specs.declared.fault.DimacsFault.{DimacsFault}
use Rattle.lrup_model.specs.Clause.{Has, EachOnce}
use Rattle.lrup_model.specs.Formula.{Cnf, max_clauses}

-- the lines of a rest that begins at the start of the line with this number
unfoldable pub lines_at_start : ℕ → List ℕ → List Line
lines_at_start number bytes = lines_from number (slice_split ends_line bytes)

-- the lines of a rest that begins inside the line with this number, before that line's first token;
-- that line isn't a comment
abbrev pub lines_inside : ℕ → List (List ℕ) → List Line
lines_inside number [] = []
lines_inside number (line ∷ lines) =
    if is_empty (runs line) then lines_from (number + 1) lines
    else record { number = number; tokens = runs line } ∷ lines_from (number + 1) lines

unfoldable pub lines_at : ℕ → List ℕ → List Line
lines_at number bytes = lines_inside number (slice_split ends_line bytes)

unfoldable pub tokens_at : ℕ → List ℕ → List Token
tokens_at number bytes = all_tokens (lines_at number bytes)

-- the bytes up to the next separator
unfoldable pub first_run : List ℕ → List ℕ
first_run [] = []
first_run (byte ∷ bytes) = if is_separator byte then [] else byte ∷ first_run bytes

unfoldable pub after_run : List ℕ → List ℕ
after_run [] = []
after_run (byte ∷ bytes) = if is_separator byte then byte ∷ bytes else after_run bytes

-- what a reader keeps of a number: the number itself; or, for a number above every variable, some
-- number above every variable
abbrev pub IsCapped : ℕ → ℕ → Type 0
IsCapped kept number = (kept ≡ number) ⊎ ((max_variable < kept) × (max_variable < number))

-- the text begins with a numeral that ends at the next separator: what is kept of the number, and
-- the rest of the text
pub record ReadsNumeral (text : List ℕ) (kept : ℕ) (rest : List ℕ) : Type 0 where
  pub numeral : is_numeral (first_run text) ≡ true
  pub number : IsCapped kept (value (first_run text))
  pub positive : 0 < kept
  pub rest_is : rest ≡ after_run text

-- this run, and those after it; no runs if this one is empty
abbrev pub with_run : List ℕ → List (List ℕ) → List (List ℕ)
with_run [] later = []
with_run (byte ∷ bytes) later = (byte ∷ bytes) ∷ later

-- the token spells a count; `kept` is what a reader keeps of it
pub record ReadsCount (text : List ℕ) (kept : ℕ) : Type 0 where
  pub count : is_count text ≡ true
  pub number : IsCapped kept (value text)

-- a header within the limits
pub record IsSmallHeader (tokens : List (List ℕ)) (vars count : ℕ) : Type 0 where
  pub spelled : IsHeader tokens vars count
  pub few_variables : vars ≤ max_variable
  pub few_clauses : count ≤ max_clauses

-- the fault of the header if its line has these tokens, whatever lines follow
abbrev pub IsLineFault : List (List ℕ) → DimacsFault → Type 0
IsLineFault tokens fault = (number : ℕ) (lines : List Line)
    → IsHeaderFault fault (record { number = number; tokens = tokens } ∷ lines)

-- What was made from these tokens, which have no fault: the formula's clauses, and the set and the
-- number of the literals of the clause being read.
pub record IsBuilt (vars count : ℕ) (tokens : List Token) (formula : Cnf) (clause : List ℤ)
    (written : ℕ) : Type 0 where
  pub closed : List (List ℤ)
  pub begun : List ℤ
  pub read : TokensSpell vars count tokens closed begun
  pub vars_are : formula.vars ≡ vars
  pub sets : AreSetsOf closed formula.clauses
  pub set : IsSetOf begun clause
  pub written_is : length begun ≡ written
  pub size : length clause ≤ written

-- The clause after one more literal, which is added at the end if it is new.
pub record AddsLiteral (old new : List ℤ) (literal : ℤ) : Type 0 where
  pub members : (other : ℤ) → Has new other ↔ (Has old other ⊎ (literal ≡ other))
  pub each_once : EachOnce new
  pub size : length new ≤ length old + 1
  pub order : (Has old literal × (new ≡ old)) ⊎ ((¬ Has old literal) × (new ≡ old ++ literal ∷ []))

-- The formula with one more clause.
abbrev pub AddsClause : Cnf → Cnf → List ℤ → Type 0
AddsClause old new clause = (new.vars ≡ old.vars) × (new.clauses ≡ old.clauses ++ clause ∷ [])

-- the rest begins with a token, or is empty
abbrev pub IsAtToken : List ℕ → Type 0
IsAtToken [] = Unit {0}
IsAtToken (byte ∷ bytes) = is_separator byte ≡ false

-- the token is the first of the old tokens, and the new tokens are the others
abbrev pub IsFirstToken : List ℕ → ℕ → List Token → List Token → Type 0
IsFirstToken text line old new = old ≡ record { line = line; text = text } ∷ new

-- the next token, for a formula of this many variables, and the tokens after it
abbrev pub FindsNext : ℕ → ℕ → List Token → List Token → Next → Type 0
FindsNext vars line old new End = old ≡ []
FindsNext vars line old new Bad = (text : List ℕ) × (later : List Token)
    × IsFirstToken text line old later × (number_of text ≡ None)
FindsNext vars line old new Range = (text : List ℕ) × (later : List Token)
    × IsFirstToken text line old later × (number : ℤ) × (number_of text ≡ Some number)
    × (vars < nat_abs number)
FindsNext vars line old new Zero =
    (text : List ℕ) × IsFirstToken text line old new × (number_of text ≡ Some (pos 0))
FindsNext vars line old new (Literal l) =
    (text : List ℕ) × IsFirstToken text line old new × (number_of text ≡ Some l) × IsLiteral vars l
