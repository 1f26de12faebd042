-- A list of literals cut into clauses, which is how a formula is stored (this project's own).
use Rattle.std.specs.Prelude.{◌≡◌, ◌≤◌, ℕ, List, [], ◌∷◌, slice_range}
use Rattle.lrup_model.specs.Clause.{Clause}

-- the clauses that end at these indices; the first of them begins at `from`
abbrev pub pieces : Clause → ℕ → List ℕ → List Clause
pieces literals from [] = []
pieces literals from (end ∷ ends) = slice_range literals from end ∷ pieces literals end ends

-- the ends don't decrease, and the last one is the end of the list
abbrev pub AreEnds : ℕ → List ℕ → ℕ → Type 0
AreEnds from [] all = from ≡ all
AreEnds from (end ∷ ends) all = (from ≤ end) × AreEnds end ends all
