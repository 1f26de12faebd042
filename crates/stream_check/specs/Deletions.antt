-- How a deletion is judged: identity by identity, from the left (this project's own).
use Rattle.std.specs.Prelude.{◌≡◌, ◌⊎◌, ◌++◌, ◌||◌, ℕ, Bool, true, false, List, [], ◌∷◌, length}
use Rattle.lrup_model.specs.Event as events
use Rattle.lrup_model.specs.Event.{History}
use Rattle.lrup_model.specs.declared.clause_map.Retired.TheVariants as retiring
use Rattle.lrup_model.specs.Event.{Event}
use Rattle.stream_check.specs.declared.fault.Fault.TheVariants as faults
use Rattle.stream_check.specs.declared.params.Ownership.{Ownership}
use Rattle.stream_check.specs.declared.params.Ownership.TheVariants as ownerships
use Rattle.stream_check.specs.StreamParams.{StreamParams, ownership_of, is_shared}
use Rattle.stream_check.specs.StreamContext.{is_among}
use Rattle.stream_check.specs.Verdicts.{LineVerdict, Good, Fails}

-- One event retires one of the stream's own identities in the map; the reply decides.
pub record RetiresThen (params : StreamParams) (earlier : List ℕ) (id : ℕ) (history : History)
    (verdict : LineVerdict) (Next : History → Type 0) : Type 0 where
  pub rest : History
  pub decided :
      ((history ≡ events.retire params.stream id retiring.Done ∷ rest) × Next rest)
      ⊎ ((history ≡ events.retire params.stream id retiring.NotLive ∷ rest)
      × Fails (length earlier) (faults.NotLive id) rest verdict)

-- An identity of the formula or of another stream is dropped, without an event, unless it was
-- dropped before, by an earlier line or by this one.
abbrev pub DropsThen : (ℕ → Bool) → List ℕ → ℕ → History → LineVerdict → (History → Type 0) → Type 0
DropsThen is_dropped earlier id history verdict Next =
    (((is_dropped id || is_among earlier id) ≡ true)
    × Fails (length earlier) (faults.NotLive id) history verdict)
    ⊎ (((is_dropped id || is_among earlier id) ≡ false) × Next history)

-- one of the stream's own identities is retired in the map; an identity of the formula or of
-- another stream is only dropped; deleting a number that isn't an identity is a fault
abbrev pub DeletesAt : Ownership → StreamParams → (ℕ → Bool) → List ℕ → ℕ → History → LineVerdict
    → (History → Type 0) → Type 0
DeletesAt ownerships.Formula params is_dropped earlier id history verdict Next =
    DropsThen is_dropped earlier id history verdict Next
DeletesAt ownerships.Own params is_dropped earlier id history verdict Next =
    RetiresThen params earlier id history verdict Next
DeletesAt ownerships.Foreign params is_dropped earlier id history verdict Next =
    DropsThen is_dropped earlier id history verdict Next
DeletesAt ownerships.Outside params is_dropped earlier id history verdict Next =
    Fails (length earlier) (faults.NotLive id) history verdict

-- the events and the verdict for the remaining identities of a deletion, if earlier lines dropped
-- the identities in `is_dropped`, and this line has deleted those in `earlier`
abbrev pub JudgesDeletion : StreamParams → (ℕ → Bool) → List ℕ → List ℕ → History
    → LineVerdict → Type 0
JudgesDeletion params is_dropped earlier [] history verdict = (history ≡ []) × (verdict ≡ Good)
JudgesDeletion params is_dropped earlier (id ∷ ids) history verdict =
    DeletesAt (ownership_of params id) params is_dropped earlier id history verdict
    (λ rest. JudgesDeletion params is_dropped (earlier ++ id ∷ []) ids rest verdict)

-- A deletion runs out of memory at an identity that it would drop, after deleting those before it.
pub record StopsDeletion (params : StreamParams) (is_dropped : ℕ → Bool) (ids : List ℕ)
    (history : History)
    (earlier : List ℕ) : Type 0 where
  pub id : ℕ
  pub later : List ℕ
  pub identities : ids ≡ earlier ++ id ∷ later
  pub before : JudgesDeletion params is_dropped [] earlier history Good
  pub shared : is_shared (ownership_of params id) ≡ true
  pub new : (is_dropped id || is_among earlier id) ≡ false

-- the event is a retire
abbrev pub IsRetire : Event → Type 0
IsRetire (events.fetch s id reply) = ⊥
IsRetire (events.publish s id clause reply) = ⊥
IsRetire (events.retire s id reply) = Unit {0}
