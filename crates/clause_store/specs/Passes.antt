-- A pass and its store as contracts see them (this project's own).
use Rattle.std.specs.Prelude.{◌≡◌, ℕ, List, [], map}
use Rattle.std.specs.List.{AllByRecursion}
use Rattle.idwords.specs.declared.row.Row.{Row}
use Rattle.lrup_model.specs.Layout.{LayoutValue}
use Rattle.lrup_model.specs.Event.{History}
use Rattle.lrup_model.specs.Formula.{Cnf}
use Rattle.lrup_model.specs.Pass.{View, IsFair}

-- the name of the store's row, and the layout with which the store was opened
pub record StoreValue : Type 0 where
  pub row : Row
  pub layout : LayoutValue

-- the name of the pass's row, and what its stream knows
pub record PassValue : Type 0 where
  pub row : Row
  pub view : View

-- the store of the pass
abbrev pub store_of : PassValue → StoreValue
store_of pass = record { row = pass.row; layout = pass.view.caller.layout }

-- This is stream s's pass, for this store and formula, and it has seen nothing and made no call.
pub record IsOpened (opened : StoreValue) (formula : Cnf) (s : ℕ) (pass : PassValue) : Type 0 where
  pub store : store_of pass ≡ opened
  pub caller : pass.view.caller ≡ record { formula = formula; layout = opened.layout; stream = s }
  pub seen : pass.view.seen ≡ []
  pub mine : pass.view.mine ≡ []
  pub fair : IsFair pass.view

-- what the passes know, in their order
abbrev pub views : List PassValue → List View
views passes = map (λ pass. pass.view) passes

-- all are passes of this store
abbrev pub AreOf : StoreValue → List PassValue → Type 0
AreOf store passes = AllByRecursion (λ pass. store_of pass ≡ store) passes

-- all have seen the same history
abbrev pub ShareHistory : List View → Type 0
ShareHistory passes = (history : History) × AllByRecursion (λ view. view.seen ≡ history) passes
