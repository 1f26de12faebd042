-- How many identities a stream deletes, and how many clauses it adds, in a legal history.
use Rattle.std.proofs.Common.{◌≡◌, ◌≢◌, ◌==◌, ℕ, [], ◌∷◌, ◌++◌, if◌then◌else◌, inl, inr, sym, ap, subst, ◌∙◌}
use Rattle.std.proofs.lemmas.Bool.{cond-true, cond-false}
use Rattle.std.proofs.lemmas.Bool.Decides.{eqb_tells, Decides-eqb}
use Rattle.lrup_model.specs.Formula.{Cnf}
use Rattle.lrup_model.specs.Layout.{LayoutValue, Owns}
use Rattle.lrup_model.specs.Event as events
use Rattle.lrup_model.specs.Event.{Event, History, stream_of, own}
use Rattle.lrup_model.specs.State.{State, Slot, absent, live, retired, IsLive, IsRetired, retire_slot, after, run}
use Rattle.lrup_model.specs.History.{LegalFrom}
use Rattle.lrup_model.specs.declared.clause_map.Published.TheVariants as publishing
use Rattle.lrup_model.specs.declared.clause_map.Retired.TheVariants as retiring
use Rattle.lrup_model.specs.lemmas.HistoryLemmas.{put, one_owner}

-- The state at one identity, after a put

pub put_same : (m : State) (id j : ℕ) (slot : Slot) → j ≡ id → put m id slot j ≡ slot
put_same m id j slot e = cond-true (j == id) slot (m j) ((Decides-eqb j id).1 e)

pub put_other : (m : State) (id j : ℕ) (slot : Slot) → j ≢ id → put m id slot j ≡ m j
put_other m id j slot ne = elim (eqb_tells j id) [
  | inl same ↦ absurd (ne same.1)
  | inr other ↦ cond-false (j == id) slot (m j) other.0
]

-- A stream's own events, run by themselves

-- what the reply to the stream's publish or retire says about the identity
unfoldable pub OwnAnswers : State → Event → Type 0
OwnAnswers m (events.fetch s id r) = Unit {0}
OwnAnswers m (events.publish s id c publishing.Done) = m id ≡ absent
OwnAnswers m (events.publish s id c publishing.Taken) = Unit {0}
OwnAnswers m (events.retire s id retiring.Done) = IsLive (m id)
OwnAnswers m (events.retire s id retiring.NotLive) = Unit {0}

unfoldable pub OwnRun : State → History → Type 0
OwnRun m [] = Unit {0}
OwnRun m (e ∷ es) = OwnAnswers m e × OwnRun (after m e) es

-- the two states agree on the stream's own identities
unfoldable pub SameOwn : LayoutValue → ℕ → State → State → Type 0
SameOwn p s m n = (id : ℕ) → Owns p s id → m id ≡ n id

-- the reply to an event of the stream fits each state that agrees on the stream's own identities
own_answers : (f : Cnf) (p : LayoutValue) (s : ℕ) (m n : State) (e : Event) (es : History) → stream_of e ≡ s → SameOwn p s m n
    → LegalFrom f p m (e ∷ es) → OwnAnswers n e
unfolding OwnAnswers SameOwn
own_answers f p s m n (events.publish t id c publishing.Done) es mine same legal = sym (same id (rw mine at legal.1.0)) ∙ legal.0
own_answers f p s m n (events.retire t id retiring.Done) es mine same legal = rw (same id (rw mine at legal.1)) at legal.0
own_answers f p s m n _ es mine same legal = tt

own_after : (f : Cnf) (p : LayoutValue) (s : ℕ) (m n : State) (e : Event) (es : History) → stream_of e ≡ s → SameOwn p s m n
    → LegalFrom f p m (e ∷ es) → SameOwn p s (after m e) (after n e)
unfolding SameOwn
own_after f p s m n (events.publish t id c publishing.Done) es mine same legal =
    λ j owns. ap (λ x. if j == id then live c else x) (same j owns)
own_after f p s m n (events.retire t id retiring.Done) es mine same legal = λ j owns.
    ap (λ x. if j == id then retire_slot (m id) else x) (same j owns)
    ∙ ap (λ x. if j == id then retire_slot x else n j) (same id (subst (λ x. Owns p x id) mine legal.1))
own_after f p s m n _ es mine same legal = same

-- an event of another stream leaves the stream's own identities as they are
other_after : (f : Cnf) (p : LayoutValue) (s : ℕ) (m n : State) (e : Event) (es : History) → stream_of e ≢ s → SameOwn p s m n
    → LegalFrom f p m (e ∷ es) → SameOwn p s (after m e) n
unfolding SameOwn
other_after f p s m n (events.publish t id c publishing.Done) es other same legal = λ j owns.
    put_other m id j (live c) (λ e. other (sym (one_owner p s t id (subst (λ x. Owns p s x) e owns) legal.1.0))) ∙ same j owns
other_after f p s m n (events.retire t id retiring.Done) es other same legal = λ j owns.
    put_other m id j (retire_slot (m id)) (λ e. other (sym (one_owner p s t id (subst (λ x. Owns p s x) e owns) legal.1))) ∙ same j owns
other_after f p s m n _ es other same legal = same

pub own_runs : (f : Cnf) (p : LayoutValue) (s : ℕ) (m n : State) (h : History) → LegalFrom f p m h → SameOwn p s m n → OwnRun n (own h s)
unfolding OwnRun
own_runs f p s m n [] legal same = tt
own_runs f p s m n (e ∷ h) legal same = elim (eqb_tells (stream_of e) s) [
  | inl mine ↦ subst (OwnRun n) (sym (cond-true (stream_of e == s) (e ∷ own h s) (own h s) mine.0)) (
    own_answers f p s m n e h mine.1 same legal,
    own_runs f p s (after m e) (after n e) h legal.2 (own_after f p s m n e h mine.1 same legal),
  )
  | inr other ↦ subst (OwnRun n) (sym (cond-false (stream_of e == s) (e ∷ own h s) (own h s) other.0))
      (own_runs f p s (after m e) n h legal.2 (other_after f p s m n e h other.1 same legal))
]

-- what is retired stays retired
pub stays_retired : (n : State) (e : Event) (id : ℕ) → OwnAnswers n e → IsRetired (n id) → IsRetired (after n e id)
unfolding OwnAnswers
stays_retired n (events.publish s j c publishing.Done) id answers is = rw (put_other n j id (live c) (λ e. rw (ap n e ∙ answers) at is)) is
stays_retired n (events.retire s j retiring.Done) id answers is =
    rw (put_other n j id (retire_slot (n j)) (λ e. live_not_retired (n id) (rw (← e) at answers) is)) is
  where
    live_not_retired : (slot : Slot) → IsLive slot → IsRetired slot → ⊥
    live_not_retired absent a b = a
    live_not_retired (live c) a b = b
    live_not_retired (retired c) a b = a
stays_retired n _ id answers is = is

pub run_retired : (n : State) (es rest : History) (id : ℕ) → OwnRun n (es ++ rest) → IsRetired (n id) → IsRetired (run n es id)
unfolding OwnRun
run_retired n [] rest id answers is = is
run_retired n (e ∷ es) rest id answers is = run_retired (after n e) es rest id answers.1 (stays_retired n e id answers.0 is)

pub run_on : (n : State) (es rest : History) → OwnRun n (es ++ rest) → OwnRun (run n es) rest
unfolding OwnRun
run_on n [] rest answers = answers
run_on n (e ∷ es) rest answers = run_on (after n e) es rest answers.1
