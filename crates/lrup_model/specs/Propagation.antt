-- Hinted unit propagation: the idea of Cruz-Filipe et al., Efficient Certified RAT Verification,
-- CADE 2017, without RAT. The rule that every hint before the last must be unit, and only the last
-- may be a conflict, is this project's own.
use Rattle.std.specs.Prelude.{◌≡◌, ◌⊎◌, ℤ, neg_ℤ, List, [], ◌∷◌, ◌++◌}
use Rattle.lrup_model.specs.Clause.{Clause, Has, IsTautology}

-- the clause has only literals that are false
abbrev pub IsConflict : List ℤ → Clause → Type 0
IsConflict falses clause = (literal : ℤ) → Has clause literal → Has falses literal

-- All other literals of the clause are false, and this one is neither true nor false.
pub record IsUnit (falses : List ℤ) (clause : Clause) (literal : ℤ) : Type 0 where
  pub here : Has clause literal
  pub not_false : ¬ Has falses literal
  pub not_true : ¬ Has falses (neg_ℤ literal)
  pub others : (other : ℤ) → Has clause other → (other ≡ literal) ⊎ Has falses other

-- each clause before the last is unit, which makes one more literal false, and the last is a
-- conflict
abbrev pub Refutes : List ℤ → List Clause → Type 0
Refutes falses [] = ⊥
Refutes falses (clause ∷ []) = IsConflict falses clause
Refutes falses (clause ∷ next ∷ hinted) =
    (literal : ℤ) × IsUnit falses clause literal
    × Refutes (falses ++ neg_ℤ literal ∷ []) (next ∷ hinted)

-- the clause is not a tautology, and the hinted clauses refute the assumption that all its literals
-- are false
abbrev pub Accepts : Clause → List Clause → Type 0
Accepts clause hinted = (¬ IsTautology clause) × Refutes clause hinted
