-- What the tests know about a pass.
use Rattle.std.specs.Prelude.{◌≡◌, List, [], ◌∷◌}
use Rattle.std.specs.List.{AllByRecursion}
use Rattle.lrup_model.specs.Formula.{Cnf}
use Rattle.clause_store.specs.Passes.{StoreValue, PassValue, store_of}

-- the pass is a pass of this store, for this formula
abbrev pub IsPassAt : Cnf → StoreValue → PassValue → Type 0
IsPassAt f store p = (store_of p ≡ store) × (p.view.caller.formula ≡ f)

abbrev pub ArePassesAt : Cnf → StoreValue → List PassValue → Type 0
ArePassesAt f store ps = AllByRecursion (IsPassAt f store) ps

-- the formula of the tests with races: it has only the empty clause, from which every clause
-- follows
abbrev pub raced : Cnf
raced = record { vars = 40001; clauses = [] ∷ [] }
