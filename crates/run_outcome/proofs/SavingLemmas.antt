-- The answers to the fetches after a run come from the state that the run's history leaves.
use Rattle.std.proofs.Common.{◌≡◌, ℕ, suc, zero, ◌+◌, ◌-◌, ◌<◌, ◌≤◌, List, [], ◌∷◌, ◌++◌, length, Some, refl, sym, ap, ap₂, subst, ◌∙◌, inl}
use Rattle.std.proofs.Common.{◌⊎◌, Bool, Err, Option, Result, inr, arith, append-nil, append_assoc}
use Rattle.std.specs.Prelude.{slice_get}
use Rattle.std.specs.List.{AllByRecursion}
use Rattle.std.proofs.lemmas.Bool.{cases_eq, cases_lt}
use Rattle.std.proofs.lemmas.List.{append_cancel_left}
use Rattle.lrup_model.specs.Event as events
use Rattle.lrup_model.specs.Event.{Event, History, Reply, own, stream_of}
use Rattle.lrup_model.specs.Formula.{Cnf}
use Rattle.lrup_model.specs.History.{IsLegal, LegalFrom}
use Rattle.lrup_model.specs.lemmas.HistoryLemmas.{legal-back, own-mine, own-other}
use Rattle.lrup_model.specs.Layout.{LayoutValue, Owns, last_identity}
use Rattle.lrup_model.specs.lemmas.OwnerLemmas.{owned}
use Rattle.lrup_model.specs.Pass.{View, IsFair, PassMoves, AreSynced, AllSaw}
use Rattle.lrup_model.specs.CallerView.{Caller}
use Rattle.lrup_model.specs.lemmas.RunningLemmas.{own-append}
use Rattle.lrup_model.specs.State.{State, Answers, opening, state}
use Rattle.stream_check.specs.internal.Checking.{IsFetch}
use Rattle.checkpoint.specs.Checkpoints.{Saves}
use Rattle.checkpoint.specs.Live.{fetches, wanted_of}
use Rattle.checkpoint.specs.declared.saving.SaveFault.{SaveFault}
use Rattle.checkpoint.specs.declared.saving.SaveFault.TheVariants as saves
use Rattle.clause_store.specs.Passes.{AreOf, PassValue, StoreValue, store_of}
use Rattle.stream_check.specs.SequentialConsistency.{HaveOneHistory}
use Rattle.run_laws.specs.lemmas.OwnLemmas.{own_all}

-- fetches of the identities from 1 on had these replies, and the live and wanted clauses were
-- saved, or memory ran out
abbrev pub SavesFound : {S : Type 0} → (S → Option (List ℕ)) → Result (Option Cnf) SaveFault → LayoutValue → (ℕ → Bool) → List Reply
    → S → S → Type 0
SavesFound written result layout wants replies old new = (length replies ≤ last_identity layout)
    × ((length replies ≡ last_identity layout) × Saves result layout.vars (wanted_of wants 1 replies) (written old) (written new)
    ⊎ (result ≡ Err saves.Memory) × (new ≡ old))

-- ---- histories of fetches

are_fetches : (s id : ℕ) (replies : List Reply) → AllByRecursion IsFetch (fetches s id replies)
are_fetches s id [] = tt
are_fetches s id (r ∷ replies) = (tt, are_fetches s (id + 1) replies)

-- what holds for a stream's events holds for its events after the history's first event
own_rest : (P : Event → Type 0) (e : Event) (h : History) (s : ℕ) → AllByRecursion P (own (e ∷ h) s)
    → AllByRecursion P (own h s)
own_rest P e h s all =
    elim (cases_eq (stream_of e) s) [
      | inl mine ↦ (subst (λ (g : History). AllByRecursion P g) (own-mine e h s mine) all).1
      | inr other ↦ subst (λ (g : History). AllByRecursion P g) (own-other e h s other) all
    ]

-- what holds for the events of the first event's stream holds for the first event
own_first : (P : Event → Type 0) (e : Event) (h : History) → AllByRecursion P (own (e ∷ h) (stream_of e)) → P e
own_first P e h all = (subst (λ (g : History). AllByRecursion P g) (own-mine e h (stream_of e) refl) all).0

-- A legal publish or retire comes from an owner. So if owners only fetch, all events are fetches.
pub all_fetch : (f : Cnf) (p : LayoutValue) (m : State) (h : History) → LegalFrom f p m h
    → ((t id : ℕ) → Owns p t id → AllByRecursion IsFetch (own h t)) → AllByRecursion IsFetch h
all_fetch f p m [] legal owners = tt
all_fetch f p m (events.fetch s id r ∷ h) legal owners =
    (tt, all_fetch f p m h legal.2 (λ t j owns. own_rest IsFetch (events.fetch s id r) h t (owners t j owns)))
all_fetch f p m (events.publish s id c r ∷ h) legal owners =
    absurd (own_first IsFetch (events.publish s id c r) h (owners s id legal.1.0))
all_fetch f p m (events.retire s id r ∷ h) legal owners =
    absurd (own_first IsFetch (events.retire s id r) h (owners s id legal.1))

-- the state before legal fetches answers them
pub all_answer : (f : Cnf) (p : LayoutValue) (m : State) (h : History) → LegalFrom f p m h
    → AllByRecursion IsFetch h → AllByRecursion (Answers m) h
all_answer f p m [] legal all = tt
all_answer f p m (events.fetch s id r ∷ h) legal all = (legal.0, all_answer f p m h legal.2 all.1)
all_answer f p m (events.publish s id c r ∷ h) legal all = absurd all.0
all_answer f p m (events.retire s id r ∷ h) legal all = absurd all.0

-- a fetch has the same answer for each stream
answer_any : (m : State) (s t id : ℕ) (r : Reply) → Answers m (events.fetch s id r) → Answers m (events.fetch t id r)
answer_any m s t id events.vacant answers = answers
answer_any m s t id (events.live c) answers = answers
answer_any m s t id events.retired answers = answers

pub answers_any : (m : State) (s t id : ℕ) (replies : List Reply) → AllByRecursion (Answers m) (fetches s id replies)
    → AllByRecursion (Answers m) (fetches t id replies)
answers_any m s t id [] all = tt
answers_any m s t id (r ∷ replies) all = (answer_any m s t id r all.0, answers_any m s t (id + 1) replies all.1)

-- the state before one stream's legal fetches answers the same fetches by any stream
pub fetches_answer : (f : Cnf) (p : LayoutValue) (m : State) (s : ℕ) (replies : List Reply)
    → LegalFrom f p m (fetches s 1 replies) → (t : ℕ) → AllByRecursion (Answers m) (fetches t 1 replies)
fetches_answer f p m s replies legal t =
    answers_any m s t 1 replies (all_answer f p m (fetches s 1 replies) legal (are_fetches s 1 replies))

-- If, after a history, each owner of an identity only fetches, and stream s makes these fetches,
-- the state that the history leaves answers the fetches.
pub answered_after : (f : Cnf) (p : LayoutValue) (h more : History) (s : ℕ) (replies : List Reply)
    → IsLegal f p (h ++ more) → ((t id : ℕ) → Owns p t id → AllByRecursion IsFetch (own more t))
    → own more s ≡ fetches s 1 replies → (t : ℕ) → AllByRecursion (Answers (state f h)) (fetches t 1 replies)
answered_after f p h more s replies legal owners mine t =
    let back : LegalFrom f p (state f h) more = legal-back f p (opening f) h more legal.events in
    let all : AllByRecursion (Answers (state f h)) more =
    all_answer f p (state f h) more back (all_fetch f p (state f h) more back owners) in
    answers_any (state f h) s t 1 replies
    (subst (λ (g : History). AllByRecursion (Answers (state f h)) g) mine (own_all (Answers (state f h)) more s all))

-- ---- passes that meet once more

-- a pass after all have met: it made no call, is fair, and has seen this history
record SyncedAt (h : History) (x : View) : Type 0 where
  after : View
  moves : PassMoves x after []
  fair : IsFair after
  saw : after.seen ≡ h

synced_at : (h : History) (xs ys : List View) → AreSynced xs ys → AllSaw h ys → (k : ℕ) (x : View) → slice_get xs k ≡ Some x → SyncedAt h x
synced_at h [] [] synced saw k x at = absurd (cc)
synced_at h [] (y ∷ ys) synced saw k x at = absurd synced
synced_at h (w ∷ xs) [] synced saw k x at = absurd synced
synced_at h (w ∷ xs) (y ∷ ys) synced saw zero x at =
    let this : w ≡ x = cc in
    subst (SyncedAt h) this (record { after = y; moves = synced.0; fair = synced.1; saw = saw.0 })
synced_at h (w ∷ xs) (y ∷ ys) synced saw (suc k) x at = synced_at h xs ys synced.2 saw.1 k x at

-- the calls of a pass that has met the others are its stream's events in the history
synced_own : (h : History) (x : View) → SyncedAt h x → own h x.caller.stream ≡ x.mine
synced_own h x at =
    ap₂ (λ (g : History) (c : Caller). own g c.stream) (sym at.saw) (sym at.moves.caller)
    ∙ at.fair.mine ∙ at.moves.mine ∙ append-nil x.mine

pub last_at : (vs : List View) (v : View) → slice_get (vs ++ v ∷ []) (length vs) ≡ Some v
last_at [] v = refl
last_at (w ∷ vs) v = last_at vs v

-- replacing the last element of a list leaves those before it unchanged
front_at : (vs : List View) (v w : View) (k : ℕ) → k < length vs
    → (x : View) × (slice_get (vs ++ v ∷ []) k ≡ Some x) × (slice_get (vs ++ w ∷ []) k ≡ Some x)
front_at [] v w k within = absurd (omega arith)
front_at (x ∷ vs) v w zero within = (x, refl, refl)
front_at (x ∷ vs) v w (suc k) within = front_at vs v w k (omega arith)

last_count : (vs : List View) (v : View) → length (vs ++ v ∷ []) ≡ length vs + 1
last_count [] v = refl
last_count (w ∷ vs) v = omega (arith, last_count vs v)

-- if a stream's events in a prefix are all its events in the history, it has no events after the
-- prefix
own_none_after : (h more : History) (s : ℕ) → own (h ++ more) s ≡ own h s → own more s ≡ []
own_none_after h more s same =
    append_cancel_left (own h s) (own more s) [] (sym (own-append h more s) ∙ same ∙ sym (append-nil (own h s)))

-- The last of a run's passes fetched, and then all met once more: the fetches gave what the run's
-- history left.
pub fetched_so : (f : Cnf) (p : LayoutValue) (h : History) (vs : List View) (v w : View) (replies : List Reply)
    (us : List View) (g : History)
    → HaveOneHistory f p h (vs ++ v ∷ []) → PassMoves v w (fetches v.caller.stream 1 replies)
    → AreSynced (vs ++ w ∷ []) us → AllSaw g us → (t : ℕ) → AllByRecursion (Answers (state f h)) (fetches t 1 replies)
fetched_so f p h vs v w replies us g one moves synced saw =
    let count : length vs + 1 ≡ p.streams = sym (last_count vs v) ∙ one.count in
    let s : ℕ = length vs + 1 in
    let place : length vs + 1 - 1 ≡ length vs = omega arith in
    let called = one.calls s v (omega arith, ap (slice_get (vs ++ v ∷ [])) place ∙ last_at vs v) in
    let last : SyncedAt g w = synced_at g (vs ++ w ∷ []) us synced saw (length vs) w (last_at vs w) in
    let more : History = moves.seen.0 ++ last.moves.seen.0 in
    let whole : g ≡ h ++ more =
    sym last.saw ∙ last.moves.seen.1
    ∙ ap (λ (k : History). k ++ last.moves.seen.0) (moves.seen.1 ∙ ap (λ (k : History). k ++ moves.seen.0) called.1)
    ∙ append_assoc h moves.seen.0 last.moves.seen.0 in
    let stream : v.caller.stream ≡ s = ap (λ (c : Caller). c.stream) called.0 in
    let stays : w.caller.stream ≡ s = ap (λ (c : Caller). c.stream) moves.caller ∙ stream in
    let fetched : w.mine ≡ own h s ++ fetches s 1 replies =
    moves.mine ∙ ap₂ (λ (k : History) (n : ℕ). k ++ fetches n 1 replies) called.2 stream in
    let mine : own more s ≡ fetches s 1 replies =
    append_cancel_left (own h s) (own more s) (fetches s 1 replies)
    (sym (own-append h more s) ∙ ap₂ (λ (k : History) (n : ℕ). own k n) (sym whole) (sym stays) ∙ synced_own g w last ∙ fetched) in
    let caller : last.after.caller ≡ record { formula = f; layout = p; stream = s } = last.moves.caller ∙ moves.caller ∙ called.0 in
    let legal : IsLegal f p (h ++ more) =
    subst (λ (k : History). IsLegal f p k) (last.saw ∙ whole)
    (subst (λ (c : Caller). IsLegal c.formula c.layout last.after.seen) caller last.fair.legal) in
    let owners : (t id : ℕ) → Owns p t id → AllByRecursion IsFetch (own more t) = λ t id owns.
    let is = owned p t id (omega arith) owns in
    let first : 0 < t = is.first in
    let within : t ≤ p.streams = is.last in
    elim (cases_lt (t - 1) (length vs)) [
      | inl front ↦
          let at = front_at vs v w (t - 1) front in
          let x : View = at.0 in
          let before = one.calls t x (first, at.1) in
          let after : SyncedAt g x = synced_at g (vs ++ w ∷ []) us synced saw (t - 1) x at.2 in
          let same : own g t ≡ own h t =
          ap (λ (n : ℕ). own g n) (sym (ap (λ (c : Caller). c.stream) before.0)) ∙ synced_own g x after ∙ before.2 in
          let none : own more t ≡ [] = own_none_after h more t (ap (λ (k : History). own k t) (sym whole) ∙ same) in
          subst (λ (k : History). AllByRecursion IsFetch k) (sym none) tt
      | inr past ↦
          let this : s ≡ t = omega arith in
          subst (λ (n : ℕ). AllByRecursion IsFetch (own more n)) this
          (subst (λ (k : History). AllByRecursion IsFetch k) (sym mine) (are_fetches s 1 replies))
    ] in
    answered_after f p h more s replies legal owners mine

-- the passes still belong to the store if the last one is replaced by another pass of the store
pub other_last : (store : StoreValue) (ps : List PassValue) (p q : PassValue) → AreOf store (ps ++ p ∷ []) → store_of q ≡ store_of p
    → AreOf store (ps ++ q ∷ [])
other_last store [] p q all same = (same ∙ all.0, tt)
other_last store (x ∷ ps) p q all same = (all.0, other_last store ps p q all.1 same)
