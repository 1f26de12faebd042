-- Assignments and entailment (textbook).
use Rattle.std.specs.Prelude.{◌≡◌, ℕ, ℤ, nat_abs, Bool}
use Rattle.std.specs.Int.{is_positive}
use Rattle.std.specs.List.{AllByRecursion}
use Rattle.lrup_model.specs.Clause.{Clause, Has, IsClause}
use Rattle.lrup_model.specs.Formula.{Cnf}

-- a truth value for each variable
abbrev pub Assignment : Type 0
Assignment = ℕ → Bool

-- the assignment makes the literal true: its variable is true exactly if the literal is positive
abbrev pub MakesTrue : Assignment → ℤ → Type 0
MakesTrue assignment l = assignment (nat_abs l) ≡ is_positive l

-- the assignment makes some literal of the clause true
abbrev pub Satisfies : Assignment → Clause → Type 0
Satisfies assignment clause = (l : ℤ) × Has clause l × MakesTrue assignment l

-- the assignment satisfies every clause of the formula
abbrev pub SatisfiesAll : Assignment → Cnf → Type 0
SatisfiesAll assignment formula = AllByRecursion (Satisfies assignment) formula.clauses

-- Every assignment that satisfies all clauses of the formula satisfies the clause.
pub record Follows (formula : Cnf) (clause : Clause) : Type 0 where
  pub holds : (assignment : Assignment) → SatisfiesAll assignment formula
      → Satisfies assignment clause

-- a clause over the formula's variables that follows from the formula
abbrev pub IsDerived : Cnf → Clause → Type 0
IsDerived formula clause = IsClause formula.vars clause × Follows formula clause

-- no assignment satisfies all clauses of the formula
abbrev pub IsUnsatisfiable : Cnf → Type 0
IsUnsatisfiable formula = (assignment : Assignment) → SatisfiesAll assignment formula → ⊥
