-- The clause map of one thread: what it has under an identity, and how an event changes that (this
-- project's own).
use Rattle.std.specs.Prelude.{◌≡◌, ◌≢◌, ◌<◌, ◌==◌, ◌&&◌, ℕ, [], ◌∷◌, length, if◌then◌else◌, nat_le, nat_lt}
use Rattle.lrup_model.specs.Clause.{Clause}
use Rattle.lrup_model.specs.Formula.{Cnf, clause_at}
use Rattle.lrup_model.specs.Layout.{LayoutValue, Owns}
use Rattle.lrup_model.specs.Event as events
use Rattle.lrup_model.specs.Event.{Event, History}
use Rattle.lrup_model.specs.declared.clause_map.Published.TheVariants as publishing
use Rattle.lrup_model.specs.declared.clause_map.Retired.TheVariants as retiring

-- what the map has under an identity
pub data Slot : Type 0 where
  absent : Slot
  live : Clause → Slot
  retired : Clause → Slot

-- what the map has under each identity
abbrev pub State : Type 0
State = ℕ → Slot

-- the slot has a clause that can be used
abbrev pub IsLive : Slot → Type 0
IsLive absent = ⊥
IsLive (live clause) = Unit {0}
IsLive (retired clause) = ⊥

-- the slot has a clause that can no longer be used
abbrev pub IsRetired : Slot → Type 0
IsRetired absent = ⊥
IsRetired (live clause) = ⊥
IsRetired (retired clause) = Unit {0}

-- the slot has the clause, live or retired
abbrev pub HasClause : Slot → Clause → Type 0
HasClause absent clause = ⊥
HasClause (live stored) clause = stored ≡ clause
HasClause (retired stored) clause = stored ≡ clause

-- a live clause is retired; other slots don't change
abbrev pub retire_slot : Slot → Slot
retire_slot absent = absent
retire_slot (live clause) = retired clause
retire_slot (retired clause) = retired clause

-- the formula's clauses are live, under the identities from 1 on, and all other slots are absent
abbrev pub opening : Cnf → State
opening formula =
    λ id. if nat_lt 0 id && nat_le id (length formula.clauses) then live (clause_at formula id)
    else absent

-- the state after an event
abbrev pub after : State → Event → State
after slots (events.fetch s id reply) = slots
after slots (events.publish s id clause publishing.Done) =
    λ j. if j == id then live clause else slots j
after slots (events.publish s id clause publishing.Taken) = slots
after slots (events.retire s id retiring.Done) =
    λ j. if j == id then retire_slot (slots id) else slots j
after slots (events.retire s id retiring.NotLive) = slots

-- the state after all events, in order
abbrev pub run : State → History → State
run slots [] = slots
run slots (event ∷ history) = run (after slots event) history

-- the state that a history leaves
abbrev pub state : Cnf → History → State
state formula history = run (opening formula) history

-- the event has the reply that the map of one thread gives
abbrev pub Answers : State → Event → Type 0
Answers slots (events.fetch s id events.vacant) = slots id ≡ absent
Answers slots (events.fetch s id (events.live clause)) = slots id ≡ live clause
Answers slots (events.fetch s id events.retired) = IsRetired (slots id)
Answers slots (events.publish s id clause publishing.Done) = slots id ≡ absent
Answers slots (events.publish s id clause publishing.Taken) = slots id ≢ absent
Answers slots (events.retire s id retiring.Done) = IsLive (slots id)
Answers slots (events.retire s id retiring.NotLive) = ¬ IsLive (slots id)

-- the slots of the stream's own identities above `last` are absent
abbrev pub AreVacantAbove : LayoutValue → ℕ → State → ℕ → Type 0
AreVacantAbove layout s slots last = (id : ℕ) → Owns layout s id → last < id → slots id ≡ absent
