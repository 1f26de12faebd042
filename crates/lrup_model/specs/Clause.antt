-- Clauses (textbook). A clause is a finite set of literals. It is kept as a list without repeated
-- literals, and definitions read the list as a set.
use Rattle.std.specs.Prelude.{◌≡◌, ◌⊎◌, ℕ, ℤ, neg_ℤ, List, [], ◌∷◌}
use Rattle.std.specs.List.{AllByRecursion}
use Rattle.lrup_model.specs.Literal.{IsLiteral}

-- a clause, as the list of its literals
abbrev pub Clause : Type 0
Clause = List ℤ

-- the literal is in the clause
abbrev pub Has : Clause → ℤ → Type 0
Has [] l = ⊥
Has (literal ∷ clause) l = (literal ≡ l) ⊎ Has clause l

-- no literal occurs twice
abbrev pub EachOnce : Clause → Type 0
EachOnce [] = Unit {0}
EachOnce (literal ∷ clause) = (¬ Has clause literal) × EachOnce clause

-- A clause over the variables 1 to vars. The length of the list is the size of the clause.
pub record IsClause (vars : ℕ) (clause : Clause) : Type 0 where
  pub literals : AllByRecursion (IsLiteral vars) clause
  pub each_once : EachOnce clause

-- the clause contains a literal and its complement (textbook)
abbrev pub IsTautology : Clause → Type 0
IsTautology clause = (l : ℤ) × Has clause l × Has clause (neg_ℤ l)
