-- A text of a formula, read token by token: definitions for this crate's own functions, and for the
-- faults. `IsFormulaText` says what a text is, and a law says that these definitions agree with it.
use Rattle.std.specs.Prelude.{◌≡◌, ◌↔◌, ◌≤◌, ◌<◌, ℕ, ℤ, pos, IsTrue, Some, List, [], ◌∷◌, ◌++◌, codes, length, map, flat_map}
use Rattle.std.specs.List.{AllByRecursion}
use Rattle.lrup_model.specs.Literal.{IsLiteral, max_variable}
use Rattle.lrup_model.specs.Clause.{Clause, Has, EachOnce}
use Rattle.lrup_model.specs.Formula.{Cnf, max_clauses, max_clause_literals}
use Rattle.dimacs.specs.Lines.{Line, Token, lines_of, all_tokens}
use Rattle.lrup_model.specs.Distinct.{distinct}
use Rattle.dimacs.specs.Numerals.{is_count, value, number_of}

-- the token spells this count
abbrev pub IsCount : List ℕ → ℕ → Type 0
IsCount text count = IsTrue (is_count text) × (value text ≡ count)

-- the header's tokens: `p`, `cnf`, the number of variables, the number of clauses
abbrev pub IsHeader : List (List ℕ) → ℕ → ℕ → Type 0
IsHeader (p ∷ cnf ∷ variables ∷ clauses ∷ []) vars count =
    (p ≡ codes "p") × (cnf ≡ codes "cnf") × IsCount variables vars × IsCount clauses count
IsHeader _ vars count = ⊥

-- the header is spelled right and within the limits, and P holds for its two counts and the later
-- tokens
pub record AfterHeader (header : Line) (lines : List Line)
    (P : ℕ → ℕ → List Token → Type 0) : Type 0 where
  pub vars : ℕ
  pub count : ℕ
  pub spelled : IsHeader header.tokens vars count
  pub few_variables : vars ≤ max_variable
  pub few_clauses : count ≤ max_clauses
  pub later : P vars count (all_tokens lines)

-- The first of these lines, each of which has a token and isn't a comment, is a header, and P holds
-- for its two counts and the tokens after it.
abbrev pub InBodyOf : List Line → (ℕ → ℕ → List Token → Type 0) → Type 0
InBodyOf [] P = ⊥
InBodyOf (header ∷ lines) P = AfterHeader header lines P

-- `InBodyOf` for the lines of a whole file, which has these bytes
abbrev pub InBody : List ℕ → (ℕ → ℕ → List Token → Type 0) → Type 0
InBody bytes P = InBodyOf (lines_of bytes) P

-- the literals of a clause as the text has them, counting repeats
pub record IsWritten (vars : ℕ) (literals : List ℤ) : Type 0 where
  pub within : AllByRecursion (IsLiteral vars) literals
  pub size : length literals ≤ max_clause_literals

-- a clause's literals and the 0 that ends it
abbrev pub ended : List ℤ → List ℤ
ended literals = literals ++ pos 0 ∷ []

-- These tokens have no fault: they spell the clauses of `closed`, each with its 0, and then the
-- literals of `begun`, whose clause hasn't ended.
pub record TokensSpell (vars count : ℕ) (tokens : List Token) (closed : List (List ℤ))
    (begun : List ℤ) : Type 0 where
  pub numbers : map (λ (token : Token). number_of token.text) tokens
      ≡ map (λ (number : ℤ). Some number) (flat_map ended closed ++ begun)
  pub closed_within : AllByRecursion (IsWritten vars) closed
  pub begun_within : IsWritten vars begun
  pub closed_count : length closed ≤ count
  pub begun_count : 0 < length begun → length closed < count

-- The clause is the set of the literals, and has each literal once, in the order of their first
-- occurrences. The last field implies the other two, which are the textbook definition.
pub record IsSetOf (literals : List ℤ) (clause : Clause) : Type 0 where
  pub members : (l : ℤ) → Has clause l ↔ Has literals l
  pub each_once : EachOnce clause
  pub order : clause ≡ distinct literals

-- each clause is the set of the literals at its index
abbrev pub AreSetsOf : List (List ℤ) → List Clause → Type 0
AreSetsOf [] [] = Unit {0}
AreSetsOf (literals ∷ rest) (clause ∷ clauses) = IsSetOf literals clause × AreSetsOf rest clauses
AreSetsOf [] (clause ∷ clauses) = ⊥
AreSetsOf (literals ∷ rest) [] = ⊥

-- the tokens after the header spell the formula's clauses
pub record AreClauses (formula : Cnf) (vars count : ℕ) (tokens : List Token) : Type 0 where
  pub written : List (List ℤ)
  pub vars_are : formula.vars ≡ vars
  pub count_is : length formula.clauses ≡ count
  pub read : TokensSpell vars count tokens written []
  pub sets : AreSetsOf written formula.clauses
