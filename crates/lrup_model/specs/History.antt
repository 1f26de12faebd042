-- Which histories are legal (this project's own).
use Rattle.std.specs.Prelude.{◌≤◌, ℕ, [], ◌∷◌, length}
use Rattle.lrup_model.specs.Clause.{Clause, IsClause}
use Rattle.lrup_model.specs.Formula.{Cnf}
use Rattle.lrup_model.specs.Entailment.{Follows}
use Rattle.lrup_model.specs.Layout.{LayoutValue, IsIdentity, Owns}
use Rattle.lrup_model.specs.Event.{Event, fetch, publish, retire, History, spent}
use Rattle.lrup_model.specs.State.{State, Answers, after, opening}

-- the largest number of literals in a derived clause
abbrev pub max_line_literals : ℕ
max_line_literals = 65535

-- A clause that may be published: it is over the formula's variables, has at most 65,535 literals,
-- and follows from the formula.
pub record IsPublishable (formula : Cnf) (candidate : Clause) : Type 0 where
  pub clause : IsClause formula.vars candidate
  pub length : length candidate ≤ max_line_literals
  pub follows : Follows formula candidate

-- The stream may make this call: a fetch of any identity, a publish of a publishable clause under
-- an identity that the stream owns, or a retire of an identity that the stream owns.
abbrev pub IsAllowed : Cnf → LayoutValue → Event → Type 0
IsAllowed formula layout (fetch s id reply) = IsIdentity layout id
IsAllowed formula layout (publish s id clause reply) =
    Owns layout s id × IsPublishable formula clause
IsAllowed formula layout (retire s id reply) = Owns layout s id

-- each event is allowed, and has the reply that the map gives in the state after the earlier events
abbrev pub LegalFrom : Cnf → LayoutValue → State → History → Type 0
LegalFrom formula layout slots [] = Unit {0}
LegalFrom formula layout slots (event ∷ history) =
    Answers slots event × IsAllowed formula layout event
    × LegalFrom formula layout (after slots event) history

-- A legal history: each event is allowed, and has the reply of a one-thread map that starts with
-- the formula's clauses; and each stream publishes at most as many literals as it has room for.
pub record IsLegal (formula : Cnf) (layout : LayoutValue) (history : History) : Type 0 where
  pub events : LegalFrom formula layout (opening formula) history
  pub room : (s : ℕ) → spent s history ≤ layout.room
