-- What a caller knows about a clause map (this project's own).
use Rattle.std.specs.Prelude.{◌≡◌, ◌+◌, ℕ, [], length, Option, None, Some}
use Rattle.std.specs.List.{AllByRecursion}
use Rattle.lrup_model.specs.Clause.{Clause}
use Rattle.lrup_model.specs.Formula.{Cnf, IsCnf}
use Rattle.lrup_model.specs.Entailment.{IsDerived}
use Rattle.lrup_model.specs.Layout.{LayoutValue, IsLayout, IsStream, Fits, Owns}
use Rattle.lrup_model.specs.Event.{History, stream_of, spent}
use Rattle.lrup_model.specs.State.{State, run, AreVacantAbove}

-- what never changes in a view: the formula and the layout of the run, and the calling stream
pub record Caller : Type 0 where
  pub formula : Cnf
  pub layout : LayoutValue
  pub stream : ℕ

-- The formula and the layout are within the limits and fit each other, and the stream is one of the
-- layout's.
pub record IsCaller (caller : Caller) : Type 0 where
  pub formula : IsCnf caller.formula
  pub layout : IsLayout caller.layout
  pub fits : Fits caller.layout caller.formula
  pub stream : IsStream caller.layout caller.stream

-- How a clause of the formula, or a published one, is stored: where it starts, and its literals in
-- the stored order.
pub record StoredClause : Type 0 where
  pub start : ℕ
  pub literals : Clause

-- What a caller knows: `own`, what the map has under the identities of the caller's stream; `room`,
-- how many literals that stream may still publish; and `spelt`, how the clauses that the caller has
-- seen are stored.
pub record CallerView : Type 0 where
  pub caller : Caller
  pub own : State
  pub room : ℕ
  pub spelt : ℕ → Option StoredClause

-- A clip, for a clause of the formula or a published one: the clause's identity, its number of
-- literals, and where it starts.
pub record ClipValue : Type 0 where
  pub id : ℕ
  pub len : ℕ
  pub start : ℕ

-- the literals of the stored clause, or none if nothing is stored
abbrev pub literals_in : Option StoredClause → Clause
literals_in None = []
literals_in (Some stored) = stored.literals

-- the literals of the clause that is stored for the clip's identity
abbrev pub clip_clause : CallerView → ClipValue → Clause
clip_clause view clip = literals_in (view.spelt clip.id)

-- The clip has the start and the length of the clause that is stored for its identity.
pub record IsKnown (view : CallerView) (clip : ClipValue) : Type 0 where
  pub stored : view.spelt clip.id
      ≡ Some (record { start = clip.start; literals = clip_clause view clip })
  pub len : clip.len ≡ length (clip_clause view clip)

-- Every stored clause follows from the formula.
pub record AllFollow (view : CallerView) : Type 0 where
  pub each : (id : ℕ) (stored : StoredClause) → view.spelt id ≡ Some stored
      → IsDerived view.caller.formula stored.literals

-- the caller's own identities above `last` are vacant
abbrev pub IsVacantAbove : CallerView → ℕ → Type 0
IsVacantAbove view last = AreVacantAbove view.caller.layout view.caller.stream view.own last

-- what is stored for an identity stays stored
abbrev pub KeepsSpelt : (ℕ → Option StoredClause) → (ℕ → Option StoredClause) → Type 0
KeepsSpelt old new = (id : ℕ) (stored : StoredClause) → old id ≡ Some stored → new id ≡ Some stored

-- What a caller's events change in its view.
pub record CallerStep (old new : CallerView) (history : History) : Type 0 where
  pub caller : new.caller ≡ old.caller
  pub callers : AllByRecursion (λ event. stream_of event ≡ old.caller.stream) history
  pub room : new.room + spent old.caller.stream history ≡ old.room
  pub own : (id : ℕ) → Owns old.caller.layout old.caller.stream id
      → new.own id ≡ run old.own history id
  pub spelt : KeepsSpelt old.spelt new.spelt
  pub follow : AllFollow old → AllFollow new
