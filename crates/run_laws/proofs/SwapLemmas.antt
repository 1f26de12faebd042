-- Swapping events of two streams: a fetch that found something, with later events of another
-- stream; and retires, with earlier ones.
use Rattle.std.proofs.Common.{◌≡◌, ◌⊎◌, ℕ, false, [], ◌∷◌, ◌++◌, refl, sym, subst, ◌∙◌, inl, inr}
use Rattle.std.specs.List.{AllByRecursion}
use Rattle.std.proofs.lemmas.Bool.{cases_eq, true≢false}
use Rattle.lrup_model.specs.Clause.{Clause}
use Rattle.lrup_model.specs.Formula.{Cnf}
use Rattle.lrup_model.specs.Layout.{LayoutValue, Owns, owner}
use Rattle.lrup_model.specs.Event as events
use Rattle.lrup_model.specs.Event.{Event, Reply, History, stream_of}
use Rattle.lrup_model.specs.State.{State, Slot, absent, live, retired, IsLive, IsRetired, retire_slot, after, Answers}
use Rattle.lrup_model.specs.History.{IsAllowed, LegalFrom}
use Rattle.lrup_model.specs.Laws.{Advances}
use Rattle.stream_check.specs.internal.Checking.{IsFetch}
use Rattle.stream_check.specs.Deletions.{IsRetire}
use Rattle.lrup_model.specs.lemmas.HistoryLemmas.{put-other, after-agrees, after-foreign, one_owner}
use Rattle.lrup_model.specs.lemmas.EntryLemmas.{after-advances}
use Rattle.lrup_model.specs.declared.clause_map.Published.TheVariants as publishing
use Rattle.lrup_model.specs.declared.clause_map.Retired.TheVariants as retiring
use Rattle.lrup_model.specs.declared.layout.Owner.{Owner}
use Rattle.lrup_model.specs.declared.layout.Owner.TheVariants as owners
use Rattle.stream_check.specs.Reducing.{is_vacant}

-- the event fits the final state: an identity that it found live, and that isn't its stream's own,
-- isn't retired there; an identity that it retired is
abbrev pub Settles : LayoutValue → State → Event → Type 0
Settles p final (events.fetch s id events.vacant) = Unit {0}
Settles p final (events.fetch s id (events.live c)) = (Owns p s id → ⊥) → IsRetired (final id) → ⊥
Settles p final (events.fetch s id events.retired) = Unit {0}
Settles p final (events.publish s id c r) = Unit {0}
Settles p final (events.retire s id retiring.Done) = IsRetired (final id)
Settles p final (events.retire s id retiring.NotLive) = Unit {0}

-- Owners

owned_or_not : (p : LayoutValue) (id : ℕ) (o : Owner) → owner p id ≡ o → ((t : ℕ) × Owns p t id) ⊎ ((t : ℕ) → Owns p t id → ⊥)
owned_or_not p id owners.Formula is = inr (λ t owns. absurd (cc))
owned_or_not p id (owners.Stream s) is = inl (s, is)
owned_or_not p id owners.Outside is = inr (λ t owns. absurd (cc))

pub mine_or_not : (p : LayoutValue) (s id : ℕ) → Owns p s id ⊎ (Owns p s id → ⊥)
mine_or_not p s id =
    elim (owned_or_not p id (owner p id) refl) [
      | inl it ↦ elim (cases_eq it.0 s) [
        | inl same ↦ inl (subst (λ (t : ℕ). Owns p t id) same it.1)
        | inr other ↦ inr (λ owns. other (one_owner p it.0 s id it.1 owns))
      ]
      | inr none ↦ inr (none s)
    ]

-- States that agree

abbrev pub identity_of : Event → ℕ
identity_of (events.fetch s id r) = id
identity_of (events.publish s id c r) = id
identity_of (events.retire s id r) = id

pub answers-agree : (m n : State) (e : Event) → m (identity_of e) ≡ n (identity_of e) → Answers m e → Answers n e
answers-agree m n (events.fetch s id events.retired) is answers = subst IsRetired is answers
answers-agree m n (events.publish s id c publishing.Taken) is answers = λ none. answers (is ∙ none)
answers-agree m n (events.retire s id retiring.Done) is answers = subst IsLive is answers
answers-agree m n (events.retire s id retiring.NotLive) is answers = λ alive. answers (subst IsLive (sym is) alive)
answers-agree m n _ is answers = sym is ∙ answers

pub legal-agrees : (f : Cnf) (p : LayoutValue) (m n : State) (h : History) → ((id : ℕ) → m id ≡ n id) → LegalFrom f p m h
    → LegalFrom f p n h
legal-agrees f p m n [] is legal = tt
legal-agrees f p m n (e ∷ h) is legal = (
  answers-agree m n e (is (identity_of e)) legal.0,
  legal.1,
  legal-agrees f p (after m e) (after n e) h (λ id. after-agrees m n e id (is id)) legal.2,
)

-- Two events of different streams

commute : (f : Cnf) (p : LayoutValue) (m : State) (e d : Event) (id : ℕ) → IsAllowed f p e → IsAllowed f p d
    → (stream_of e ≡ stream_of d → ⊥) → after (after m e) d id ≡ after (after m d) e id
commute f p m e d id allowed also other =
    elim (mine_or_not p (stream_of d) id) [
      | inl mine ↦
          let foreign : Owns p (stream_of e) id → ⊥ = λ theirs. other (one_owner p (stream_of e) (stream_of d) id theirs mine) in
          after-agrees (after m e) m d id (after-foreign f p m e id allowed foreign)
          ∙ sym (after-foreign f p (after m d) e id allowed foreign)
      | inr theirs ↦ after-foreign f p (after m e) d id also theirs
          ∙ sym (after-agrees (after m d) m e id (after-foreign f p m d id also theirs))
    ]

pub gone_stays : (a b : Slot) → Advances a b → IsRetired a → IsRetired b
gone_stays absent b advances is = absurd is
gone_stays (live c) b advances is = absurd is
gone_stays (retired c) absent advances is = absurd advances
gone_stays (retired c) (live d) advances is = absurd advances
gone_stays (retired c) (retired d) advances is = tt

not_absent : (x : Slot) (c : Clause) → x ≡ live c → x ≡ absent → ⊥
not_absent x c is none = absurd (cc)

-- a clause that a stream finds is still there after another stream's event, if it isn't retired in
-- the end
live_stays : (f : Cnf) (p : LayoutValue) (final m : State) (s id : ℕ) (c : Clause) (d : Event)
    → (s ≡ stream_of d → ⊥) → IsAllowed f p d → Settles p final (events.fetch s id (events.live c)) → Settles p final d
    → m id ≡ live c → Answers m d → after m d id ≡ live c
live_stays f p final m s id c (events.publish t j x publishing.Done) other also settles too is answers =
    put-other m j (live x) id (λ same. not_absent (m id) c is (subst (λ (i : ℕ). m i ≡ absent) (sym same) answers)) ∙ is
live_stays f p final m s id c (events.retire t j retiring.Done) other also settles too is answers =
    put-other m j (retire_slot (m j)) id (λ same. settles (λ mine. other (one_owner p s t id mine (rw same also))) (rw same too)) ∙ is
live_stays f p final m s id c _ other also settles too is answers = is

-- a fetch that found something has the same reply after another stream's event
then-answers : (f : Cnf) (p : LayoutValue) (final m : State) (e d : Event)
    → IsFetch e → is_vacant e ≡ false → (stream_of e ≡ stream_of d → ⊥) → IsAllowed f p d → Settles p final e → Settles p final d
    → Answers m e → Answers m d → Answers (after m d) e
then-answers f p final m (events.fetch s id events.vacant) d fetches some other also settles too answers first = absurd (true≢false some)
then-answers f p final m (events.fetch s id (events.live c)) d fetches some other also settles too answers first =
    live_stays f p final m s id c d other also settles too answers first
then-answers f p final m (events.fetch s id events.retired) d fetches some other also settles too answers first =
    gone_stays (m id) (after m d id) (after-advances m d id first) answers
then-answers f p final m (events.publish s id c r) d fetches some other also settles too answers first = absurd fetches
then-answers f p final m (events.retire s id r) d fetches some other also settles too answers first = absurd fetches

fetch-keeps : (m : State) (e : Event) → IsFetch e → after m e ≡ m
fetch-keeps m (events.fetch s id r) fetches = refl
fetch-keeps m (events.publish s id c r) fetches = absurd fetches
fetch-keeps m (events.retire s id r) fetches = absurd fetches

swap : (f : Cnf) (p : LayoutValue) (final m : State) (e d : Event) (h : History)
    → IsFetch e → is_vacant e ≡ false → (stream_of e ≡ stream_of d → ⊥) → Settles p final e → Settles p final d
    → LegalFrom f p m (e ∷ d ∷ h) → LegalFrom f p m (d ∷ e ∷ h)
swap f p final m e d h fetches some other settles too legal =
    let first : Answers m d = subst (λ (n : State). Answers n d) (fetch-keeps m e fetches) legal.2.0 in (
      first,
      legal.2.1,
      (
        then-answers f p final m e d fetches some other legal.2.1 settles too legal.0 first,
        legal.1,
        legal-agrees f p (after (after m e) d) (after (after m d) e) h (λ id. commute f p m e d id legal.1 legal.2.1 other) legal.2.2,
      ),
    )

-- a history stays legal if a fetch that found something is moved past the following block of
-- another stream
pub goes-following : (f : Cnf) (p : LayoutValue) (final m : State) (e : Event) (t : ℕ) (block h : History)
    → IsFetch e → is_vacant e ≡ false → (stream_of e ≡ t → ⊥) → Settles p final e
    → AllByRecursion (λ d. stream_of d ≡ t) block → AllByRecursion (Settles p final) block
    → LegalFrom f p m (e ∷ block ++ h) → LegalFrom f p m (block ++ e ∷ h)
goes-following f p final m e t [] h fetches some other settles theirs settled legal = legal
goes-following f p final m e t (d ∷ block) h fetches some other settles theirs settled legal =
    let swapped : LegalFrom f p m (d ∷ e ∷ block ++ h)
    = swap f p final m e d (block ++ h) fetches some (λ same. other (same ∙ theirs.0)) settles settled.0 legal in (
      swapped.0,
      swapped.1,
      goes-following f p final (after m d) e t block h fetches some other settles theirs.1 settled.1 swapped.2,
    )

-- Retires move ahead of other streams' events

alive_some : (x : Slot) → IsLive x → x ≡ absent → ⊥
alive_some absent alive is = absurd alive
alive_some (live c) alive is = absurd (cc)
alive_some (retired c) alive is = absurd alive

-- a fetch has the same reply after another stream's retire, if what the fetch finds stays
fetch-after : (p : LayoutValue) (final m : State) (s id t j : ℕ) (r : Reply)
    → (s ≡ t → ⊥) → Owns p s id → IsRetired (final id) → Settles p final (events.fetch t j r)
    → IsLive (m id) → Answers m (events.fetch t j r) → Answers (after m (events.retire s id retiring.Done)) (events.fetch t j r)
fetch-after p final m s id t j events.vacant other owns is_dropped settles alive answers =
    put-other m id (retire_slot (m id)) j (λ same. alive_some (m id) alive (subst (λ (i : ℕ). m i ≡ absent) same answers)) ∙ answers
fetch-after p final m s id t j (events.live c) other owns is_dropped settles alive answers =
    put-other m id (retire_slot (m id)) j (λ same. settles (λ theirs. other (one_owner p s t id owns (rw same at theirs)))
    (rw same is_dropped)) ∙ answers
fetch-after p final m s id t j events.retired other owns is_dropped settles alive answers =
    gone_stays (m j) (after m (events.retire s id retiring.Done) j) (after-advances m (events.retire s id retiring.Done) j alive) answers

after-retire : (f : Cnf) (p : LayoutValue) (final m : State) (e d : Event)
    → IsRetire e → (stream_of e ≡ stream_of d → ⊥) → IsAllowed f p e → IsAllowed f p d → Settles p final e → Settles p final d
    → Answers m e → Answers m d → Answers (after m e) d
after-retire f p final m (events.fetch s id r) d retires other allowed also settles too answers first = absurd retires
after-retire f p final m (events.publish s id c r) d retires other allowed also settles too answers first = absurd retires
after-retire f p final m (events.retire s id retiring.NotLive) d retires other allowed also settles too answers first = first
after-retire f p final m (events.retire s id retiring.Done) (events.fetch t j r) retires other allowed also settles too answers first =
    fetch-after p final m s id t j r other allowed settles too answers first
after-retire f p final m (events.retire s id retiring.Done) (events.publish t j c r) retires other allowed also settles too answers first =
    answers-agree m (after m (events.retire s id retiring.Done)) (events.publish t j c r)
    (sym (put-other m id (retire_slot (m id)) j
    (λ same. other (one_owner p s t j (subst (λ (i : ℕ). Owns p s i) (sym same) allowed) also.0)))) first
after-retire f p final m (events.retire s id retiring.Done) (events.retire t j r) retires other allowed also settles too answers first =
    answers-agree m (after m (events.retire s id retiring.Done)) (events.retire t j r)
    (sym (put-other m id (retire_slot (m id)) j
    (λ same. other (one_owner p s t j (subst (λ (i : ℕ). Owns p s i) (sym same) allowed) also)))) first

retire-before : (f : Cnf) (p : LayoutValue) (m : State) (e d : Event) → IsRetire e → (stream_of e ≡ stream_of d → ⊥) → IsAllowed f p e
    → IsAllowed f p d → Answers (after m d) e → Answers m e
retire-before f p m (events.fetch s id r) d retires other allowed also answers = absurd retires
retire-before f p m (events.publish s id c r) d retires other allowed also answers = absurd retires
retire-before f p m (events.retire s id r) d retires other allowed also answers =
    answers-agree (after m d) m (events.retire s id r)
    (after-foreign f p m d id also (λ theirs. other (one_owner p s (stream_of d) id allowed theirs))) answers

swap-back : (f : Cnf) (p : LayoutValue) (final m : State) (e d : Event) (h : History)
    → IsRetire e → (stream_of e ≡ stream_of d → ⊥) → Settles p final e → Settles p final d
    → LegalFrom f p m (d ∷ e ∷ h) → LegalFrom f p m (e ∷ d ∷ h)
swap-back f p final m e d h retires other settles too legal =
    let first : Answers m e = retire-before f p m e d retires other legal.2.1 legal.1 legal.2.0 in (
      first,
      legal.2.1,
      (
        after-retire f p final m e d retires other legal.2.1 legal.1 settles too first legal.0,
        legal.1,
        legal-agrees f p (after (after m d) e) (after (after m e) d) h (λ id. sym (commute f p m e d id legal.2.1 legal.1 other)) legal.2.2,
      ),
    )

one-before : (f : Cnf) (p : LayoutValue) (final m : State) (e : Event) (t : ℕ) (block h : History)
    → IsRetire e → (stream_of e ≡ t → ⊥) → Settles p final e
    → AllByRecursion (λ d. stream_of d ≡ t) block → AllByRecursion (Settles p final) block
    → LegalFrom f p m (block ++ e ∷ h) → LegalFrom f p m (e ∷ block ++ h)
one-before f p final m e t [] h retires other settles theirs settled legal = legal
one-before f p final m e t (d ∷ block) h retires other settles theirs settled legal =
    swap-back f p final m e d (block ++ h) retires (λ same. other (same ∙ theirs.0)) settles settled.0
    (legal.0, legal.1, one-before f p final (after m d) e t block h retires other settles theirs.1 settled.1 legal.2)

-- a history stays legal if retires of a stream are moved ahead of the preceding block of another
-- stream
pub comes-before : (f : Cnf) (p : LayoutValue) (final m : State) (s : ℕ) (g : History) (t : ℕ) (block h : History)
    → (s ≡ t → ⊥) → AllByRecursion IsRetire g → AllByRecursion (λ e. stream_of e ≡ s) g → AllByRecursion (Settles p final) g
    → AllByRecursion (λ d. stream_of d ≡ t) block → AllByRecursion (Settles p final) block
    → LegalFrom f p m (block ++ (g ++ h)) → LegalFrom f p m (g ++ (block ++ h))
comes-before f p final m s [] t block h other retires mine settles theirs settled legal = legal
comes-before f p final m s (e ∷ g) t block h other retires mine settles theirs settled legal =
    let first : LegalFrom f p m (e ∷ block ++ (g ++ h))
    = one-before f p final m e t block (g ++ h) retires.0 (λ same. other (sym mine.0 ∙ same)) settles.0 theirs settled legal in
    (first.0, first.1, comes-before f p final (after m e) s g t block h other retires.1 mine.1 settles.1 theirs settled first.2)
