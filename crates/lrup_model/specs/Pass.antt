-- Passes, which are the streams' handles to the shared store, and what it means for a pass to be
-- fair, for a pass to move, and for passes to meet (this project's own).
use Rattle.std.specs.Prelude.{◌≡◌, ◌≢◌, ◌+◌, ◌-◌, ◌==◌, ◌++◌, ℕ, List, [], ◌∷◌, if◌then◌else◌, Option, None, Some}
use Rattle.std.specs.List.{AllByRecursion}
use Rattle.lrup_model.specs.Formula.{Cnf}
use Rattle.lrup_model.specs.Event.{History, own, spent, stream_of}
use Rattle.lrup_model.specs.State.{Slot, absent, live, retired, state}
use Rattle.lrup_model.specs.History.{IsLegal}
use Rattle.lrup_model.specs.CallerView.{Caller, IsCaller, StoredClause, CallerView, AllFollow, KeepsSpelt}

-- An identity and its stored clause.
pub record Spelling : Type 0 where
  pub id : ℕ
  pub stored : StoredClause

-- what the list stores for an identity
abbrev pub stored_in : List Spelling → ℕ → Option StoredClause
stored_in [] id = None
stored_in (entry ∷ spellings) id =
    if entry.id == id then Some entry.stored else stored_in spellings id

-- no identity occurs twice
abbrev pub IsOncePerIdentity : List Spelling → Type 0
IsOncePerIdentity [] = Unit {0}
IsOncePerIdentity (entry ∷ spellings) =
    (stored_in spellings entry.id ≡ None) × IsOncePerIdentity spellings

-- what is stored is the slot's clause, or nothing if the slot is absent
abbrev pub Spells : Slot → Option StoredClause → Type 0
Spells absent None = Unit {0}
Spells absent (Some stored) = ⊥
Spells (live clause) None = ⊥
Spells (live clause) (Some stored) = stored.literals ≡ clause
Spells (retired clause) None = ⊥
Spells (retired clause) (Some stored) = stored.literals ≡ clause

-- Exactly the identities that are live or retired after the history are stored, each once, with its
-- clause.
pub record IsSpelt (formula : Cnf) (history : History) (spellings : List Spelling) : Type 0 where
  pub once : IsOncePerIdentity spellings
  pub slots : (id : ℕ) → Spells (state formula history id) (stored_in spellings id)

-- What a pass knows: `seen`, the history that it has seen; `mine`, the calls made through it, in
-- order; and `spelt`, the clauses that it has seen and where the store put them.
pub record View : Type 0 where
  pub caller : Caller
  pub seen : History
  pub mine : History
  pub spelt : List Spelling

-- The history that the pass has seen is legal; its calls by the pass's stream are exactly the calls
-- of the pass, in order; and exactly the clauses that this history leaves are stored.
pub record IsFair (view : View) : Type 0 where
  pub caller : IsCaller view.caller
  pub legal : IsLegal view.caller.formula view.caller.layout view.seen
  pub mine : own view.seen view.caller.stream ≡ view.mine
  pub spelt : IsSpelt view.caller.formula view.seen view.spelt

-- what a caller knows through a pass
abbrev pub pass_caller_view : View → CallerView
pass_caller_view view = record {
  caller = view.caller;
  own = state view.caller.formula view.mine;
  room = view.caller.layout.room - spent view.caller.stream view.mine;
  spelt = stored_in view.spelt;
}

-- The pass made these calls, and may have seen calls of others. If it made a call, it is fair;
-- otherwise it is fair if it was fair before.
pub record PassMoves (old new : View) (history : History) : Type 0 where
  pub caller : new.caller ≡ old.caller
  pub callers : AllByRecursion (λ event. stream_of event ≡ old.caller.stream) history
  pub mine : new.mine ≡ old.mine ++ history
  pub seen : (more : History) × (new.seen ≡ old.seen ++ more)
  pub room : (pass_caller_view new).room + spent old.caller.stream history
      ≡ (pass_caller_view old).room
  pub spelt : KeepsSpelt (stored_in old.spelt) (stored_in new.spelt)
  pub fair : IsFair old → IsFair new
  pub fair_after : history ≢ [] → IsFair new
  pub follow : AllFollow (pass_caller_view old) → AllFollow (pass_caller_view new)

-- Two passes of one store have met: both have now seen the same history, which begins with what
-- each had seen before. If one had already seen all that the other had, its history doesn't change.
-- Neither made a call, and both are fair.
pub record SyncViews (old old' new new' : View) : Type 0 where
  pub one : new'.seen ≡ new.seen
  pub first : PassMoves old new []
  pub second : PassMoves old' new' []
  pub fair : IsFair new
  pub fair' : IsFair new'
  pub longer : (more : History) → old.seen ≡ old'.seen ++ more → new.seen ≡ old.seen
  pub longer' : (more : History) → old'.seen ≡ old.seen ++ more → new.seen ≡ old'.seen

-- the pass meets each of the others in turn
abbrev pub SyncInTurn : View → List View → View → List View → Type 0
SyncInTurn old [] new [] = new ≡ old
SyncInTurn old (other ∷ others) new (other' ∷ others') =
    (next : View) × SyncViews old other next other' × SyncInTurn next others new others'
SyncInTurn old [] new (other' ∷ others') = ⊥
SyncInTurn old (other ∷ others) new [] = ⊥

-- Both lists have the same passes. Between the first list and the second, the passes made no call
-- but may have seen more, and in the second they are fair.
abbrev pub AreSynced : List View → List View → Type 0
AreSynced [] [] = Unit {0}
AreSynced (old ∷ before) (new ∷ after) = PassMoves old new [] × IsFair new × AreSynced before after
AreSynced [] (new ∷ after) = ⊥
AreSynced (old ∷ before) [] = ⊥

-- all have seen this history
abbrev pub AllSaw : History → List View → Type 0
AllSaw history passes = AllByRecursion (λ view. view.seen ≡ history) passes
