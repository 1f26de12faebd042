-- Laws of hinted unit propagation.
use Rattle.std.specs.Prelude.{◌↔◌, ◌++◌, ℤ, List, [], ◌∷◌}
use Rattle.lrup_model.specs.Clause.{Clause, IsTautology}
use Rattle.lrup_model.specs.Propagation.{IsConflict, Accepts}
use Rattle.propagate.specs.Hints.{Leads}

-- hinted clauses are accepted exactly if the clause isn't a tautology, all hinted clauses before
-- the last are unit, one after the other, and then the last is a conflict
abbrev pub AcceptsExactly : Type 0
AcceptsExactly = (c : Clause) (ds : List Clause) (d : Clause) → Accepts c (ds ++ d ∷ [])
    ↔ ((¬ IsTautology c) × ((m : List ℤ) × Leads c ds m × IsConflict m d))
