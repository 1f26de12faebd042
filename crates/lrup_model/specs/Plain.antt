-- The clause map of one thread, as its contracts see it, and a stream's view of it (this project's
-- own).
use Rattle.std.specs.Prelude.{◌≡◌, ◌≢◌, ◌+◌, ◌-◌, ◌<◌, ℕ, List, [], map, take, drop, slice_index, slice_index_or, Option, None, Some}
use Rattle.std.specs.List.{AllByRecursion}
use Rattle.lrup_model.specs.Clause.{Clause}
use Rattle.lrup_model.specs.Formula.{Cnf}
use Rattle.lrup_model.specs.Layout.{LayoutValue}
use Rattle.lrup_model.specs.Event.{History, stream_of, spent}
use Rattle.lrup_model.specs.State.{Slot, absent, State, run}
use Rattle.lrup_model.specs.State as slots
use Rattle.lrup_model.specs.History.{LegalFrom}
use Rattle.lrup_model.specs.CallerView.{StoredClause, CallerView, KeepsSpelt, AllFollow}

-- what is stored under an identity
pub data PlainSlot : Type 0 where
  vacant : PlainSlot
  live : StoredClause → PlainSlot
  retired : StoredClause → PlainSlot

-- Element i of `plain_slots` is what is stored under identity i (nothing under 0); `free` has the
-- room that each stream has left, in literals.
pub record Plain : Type 0 where
  pub layout : LayoutValue
  pub plain_slots : List PlainSlot
  pub free : List ℕ

abbrev pub slot_of : PlainSlot → Slot
slot_of vacant = absent
slot_of (live stored) = slots.live stored.literals
slot_of (retired stored) = slots.retired stored.literals

abbrev pub stored_of : PlainSlot → Option StoredClause
stored_of vacant = None
stored_of (live stored) = Some stored
stored_of (retired stored) = Some stored

abbrev pub clause_of : PlainSlot → Clause
clause_of vacant = []
clause_of (live stored) = stored.literals
clause_of (retired stored) = stored.literals

abbrev pub plain_slot_at : Plain → ℕ → PlainSlot
plain_slot_at plain id = slice_index_or plain.plain_slots id vacant

-- the formula, whose clauses are under the first identities
abbrev pub formula_of : Plain → Cnf
formula_of plain = record {
  vars = plain.layout.vars;
  clauses = map clause_of (take plain.layout.clauses (drop 1 plain.plain_slots));
}

abbrev pub plain_state : Plain → State
plain_state plain = λ id. slot_of (plain_slot_at plain id)

-- the room that stream s has left, counting streams from 1
abbrev pub free_at : Plain → ℕ → ℕ
free_at plain s = slice_index plain.free (s - 1)

-- what a stream's caller knows about the map
abbrev pub plain_caller_view : Plain → ℕ → CallerView
plain_caller_view plain s = record {
  caller = record { formula = formula_of plain; layout = plain.layout; stream = s };
  own = plain_state plain;
  room = free_at plain s;
  spelt = λ id. stored_of (plain_slot_at plain id);
}

-- These events of the stream lead from the old map to the new one, and each has the reply that the
-- map gave at that moment. The room of other streams is unchanged.
pub record PlainMoves (old new : Plain) (s : ℕ) (history : History) : Type 0 where
  pub layout : new.layout ≡ old.layout
  pub formula : formula_of new ≡ formula_of old
  pub callers : AllByRecursion (λ event. stream_of event ≡ s) history
  pub answers : LegalFrom (formula_of old) old.layout (plain_state old) history
  pub state : plain_state new ≡ run (plain_state old) history
  pub room : free_at new s + spent s history ≡ free_at old s
  pub others : (t : ℕ) → 0 < t → t ≢ s → free_at new t ≡ free_at old t
  pub spelt : KeepsSpelt (λ id. stored_of (plain_slot_at old id))
      (λ id. stored_of (plain_slot_at new id))
  pub follow : AllFollow (plain_caller_view old s) → AllFollow (plain_caller_view new s)
