-- Hinted clauses, one after the other (the idea of Cruz-Filipe et al., CADE 2017).
use Rattle.std.specs.Prelude.{◌≡◌, ◌++◌, ℤ, neg_ℤ, List, [], ◌∷◌}
use Rattle.lrup_model.specs.Clause.{Clause}
use Rattle.lrup_model.specs.Propagation.{IsUnit}

-- the clauses are unit, one after the other, and lead from these false literals to those
abbrev pub Leads : List ℤ → List Clause → List ℤ → Type 0
Leads before [] after = before ≡ after
Leads before (clause ∷ hinted) after =
    (literal : ℤ) × IsUnit before clause literal × Leads (before ++ neg_ℤ literal ∷ []) hinted after
