-- What it means for a file to be the text of a formula (DIMACS CNF; the limits are this project's
-- own).
use Rattle.std.specs.Prelude.{◌≡◌, ◌≤◌, ℕ, ℤ, pos, List, [], ◌∷◌, ◌++◌, codes, length, map, flat_map}
use Rattle.std.specs.Fmt.{decimal, signed_decimal}
use Rattle.std.specs.List.{AllByRecursion}
use Rattle.lrup_model.specs.Distinct.{distinct}
use Rattle.lrup_model.specs.Formula.{Cnf, max_clauses, max_clause_literals}
use Rattle.lrup_model.specs.Literal.{IsLiteral, max_variable}
use Rattle.dimacs.specs.Lines.{token_lines}

-- The bytes are a text of the formula. The first line of tokens is the header, and the tokens of
-- the other lines are the literals of the clauses as they are written, each clause followed by a 0.
-- In the formula, each clause has each of its literals only once.
pub record IsFormulaText (bytes : List ℕ) (formula : Cnf) : Type 0 where
  pub lines : List (List (List ℕ))
  pub header : token_lines bytes
      ≡ (codes "p" ∷ codes "cnf" ∷ decimal formula.vars ∷ decimal (length formula.clauses) ∷ [])
      ∷ lines
  pub written : List (List ℤ)
  pub tokens : flat_map (λ line. line) lines
      ≡ map signed_decimal (flat_map (λ clause. clause ++ pos 0 ∷ []) written)
  pub literals : AllByRecursion (AllByRecursion (IsLiteral formula.vars)) written
  pub sizes : AllByRecursion (λ clause. length clause ≤ max_clause_literals) written
  pub few_variables : formula.vars ≤ max_variable
  pub few_clauses : length formula.clauses ≤ max_clauses
  pub clauses : formula.clauses ≡ map distinct written
