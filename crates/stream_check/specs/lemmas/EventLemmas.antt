-- Lemmas that derive P for all events of a line from its parts.
use Rattle.std.proofs.Common.{◌≡◌, ◌∙◌, ℕ, zero, suc, ℤ, Bool, List, [], ◌∷◌, ◌++◌, replicate, Result, Ok, Err, inl, inr, refl, sym, ap, subst}
use Rattle.std.proofs.Common.{append_assoc, append-nil}
use Rattle.std.specs.List.{AllByRecursion}
use Rattle.lrup_model.specs.Clause.{Clause}
use Rattle.lrup_model.specs.Event as events
use Rattle.lrup_model.specs.Event.{Event, History, Reply}
use Rattle.lrup_model.specs.lemmas.ListLemmas.{All-append}
use Rattle.lrup_model.specs.declared.clause_map.Retired.TheVariants as retiring
use Rattle.stream_check.specs.declared.fault.Fault.{Fault}
use Rattle.stream_check.specs.declared.params.Ownership.{Ownership}
use Rattle.stream_check.specs.declared.params.Ownership.TheVariants as ownerships
use Rattle.stream_check.specs.StreamParams.{StreamParams, ownership_of}
use Rattle.stream_check.specs.StreamContext.{StreamContext}
use Rattle.stream_check.specs.Verdicts.{LineVerdict, Good, Bad, Violates}
use Rattle.stream_check.specs.Lookup.{FetchesHintAt, FetchesHint, answer_of, LooksUp, AreFound}
use Rattle.stream_check.specs.Additions.{FailsBy, FailsHints, published_by, JudgesAddition}
use Rattle.stream_check.specs.Deletions.{DeletesAt, JudgesDeletion}
use Rattle.stream_check.specs.Imports.{JudgesImport}

module _ (c : StreamParams) (P : History → Type 0) (none : P []) where
  none_holds : (es : History) → es ≡ [] → P es
  none_holds es e = subst P (sym e) none

  violates_holds : (Holds : Type 0) (its : Fault) (es : History) (fault : Fault) (A : Type 0)
      → (A → P es) → Violates Holds its es fault A → P es
  violates_holds Holds its es fault A next (inl bad) = none_holds es bad.1
  violates_holds Holds its es fault A next (inr good) = next good.1

  -- P holds for the events of a look-up, followed by other events of an addition or an import
  module _ (IsHint : ℕ → Type 0)
      (looked : (h : ℕ) (asked rest : History) (r : Reply) → IsHint h → FetchesHint c h asked r
      → (r ≡ events.vacant → rest ≡ []) → P rest → P (asked ++ rest)) where
    looks_hold : (is_dropped : ℕ → Bool) (h : ℕ) (asked rest : History)
        (answer : Result Clause Fault)
        → IsHint h → LooksUp c is_dropped h asked answer
        → (answer ≡ answer_of h events.vacant → rest ≡ []) → P rest → P (asked ++ rest)
    looks_hold is_dropped h asked rest answer is (inl dropped) ends holds =
        subst (λ (a : History). P (a ++ rest)) (sym dropped.1) holds
    looks_hold is_dropped h asked rest answer is (inr found) ends holds =
        looked h asked rest found.1 is found.2
        (λ vacant. ends (found.3 ∙ ap (answer_of h) vacant)) holds

    -- P holds for the events of a look-up with no events after them
    looks_last : (is_dropped : ℕ → Bool) (h : ℕ) (asked : History) (answer : Result Clause Fault)
        → IsHint h → LooksUp c is_dropped h asked answer → P asked
    looks_last is_dropped h asked answer is looks =
        subst P (append-nil asked)
        (looks_hold is_dropped h asked [] answer is looks (λ vacant. refl) none)

    pub found_hold : (is_dropped : ℕ → Bool) (hints : List ℕ) (ds : List Clause) (es rest : History)
        → AllByRecursion IsHint hints → AreFound c is_dropped hints ds es → P rest → P (es ++ rest)
    found_hold is_dropped [] [] es rest all found holds =
        subst (λ (a : History). P (a ++ rest)) (sym found) holds
    found_hold is_dropped [] (d ∷ ds) es rest all found holds = absurd found
    found_hold is_dropped (h ∷ hints) [] es rest all found holds = absurd found
    found_hold is_dropped (h ∷ hints) (d ∷ ds) es rest all found holds =
        subst P (sym (ap (λ (a : History). a ++ rest) found.2 ∙ append_assoc found.0 found.1 rest))
        (looks_hold is_dropped h found.0 (found.1 ++ rest) (Ok d) all.0 found.3
        (λ vacant. absurd (cc))
        (found_hold is_dropped hints ds found.1 rest all.1 found.4 holds))

    by_holds : (answer : Result Clause Fault) (n : List ℤ) (h : ℕ) (later : List ℕ) (es : History)
        (fault : Fault) (A : List ℤ → Type 0) → ((m : List ℤ) → A m → P es)
        → FailsBy answer n h later es fault A
        → (answer ≡ answer_of h events.vacant → es ≡ []) × P es
    by_holds (Ok d) n h later es fault A next (inl unit) =
        ((λ vacant. absurd (cc)), next _ unit.2)
    by_holds (Ok d) n h later es fault A next (inr misleads) =
        ((λ vacant. misleads.0), none_holds es misleads.0)
    by_holds (Err its) n h later es fault A next fails =
        ((λ vacant. fails.0), none_holds es fails.0)

    pub fails_hold : (is_dropped : ℕ
        → Bool) (n : List ℤ) (hints : List ℕ) (es : History) (fault : Fault)
        → AllByRecursion IsHint hints → FailsHints c is_dropped n hints es fault → P es
    fails_hold is_dropped n [] es fault all fails = none_holds es fails.0
    fails_hold is_dropped n (h ∷ hints) es fault all fails =
        let rest = by_holds fails.3 n h hints fails.1 fault
        (λ m. FailsHints c is_dropped m hints fails.1 fault)
        (λ m k. fails_hold is_dropped m hints fails.1 fault all.1 k) fails.5 in
        subst P (sym fails.2)
        (looks_hold is_dropped h fails.0 fails.1 fails.3 all.0 fails.4 rest.0 rest.1)

    pub addition_holds : (st : StreamContext) (id : ℕ) (lits : List ℤ) (hints : List ℕ)
        (es : History)
        (v : LineVerdict)
        → (v ≡ Good → P (published_by c id lits ∷ [])) → AllByRecursion IsHint hints
        → JudgesAddition c st id lits hints es v → P es
    addition_holds st id lits hints es Good publishes all (fetches, good, is) =
        subst P (sym is)
        (found_hold st.is_dropped hints good.clauses fetches _ all good.named (publishes refl))
    addition_holds st id lits hints es (Bad deleted fault) publishes all bad =
        violates_holds _ _ es fault _ (λ a. violates_holds _ _ es fault _
        (λ a. violates_holds _ _ es fault _ (λ a. violates_holds _ _ es fault _
        (λ a. fails_hold st.is_dropped _ hints es fault all a) a) a) a) bad.1

    pub import_holds : (st : StreamContext) (id : ℕ) (lits : List ℤ) (es : History)
        (v : LineVerdict)
        → IsHint id → JudgesImport c st id lits es v → P es
    import_holds st id lits es Good is good =
        subst P (append-nil es) (found_hold st.is_dropped (id ∷ []) (good.clause ∷ []) es [] (is, tt) good.named none)
    import_holds st id lits es (Bad deleted fault) is bad =
        violates_holds _ _ es fault _ (λ a. violates_holds _ _ es fault _ (λ a. elim a [
          | inl unfound ↦ looks_last st.is_dropped id es (Err fault) is unfound
          | inr differs ↦ looks_last st.is_dropped id es (Ok differs.0) is differs.1
        ]) a) bad.1

  -- P holds for the events of a deletion
  module _ (IsDeleted : ℕ → Type 0)
      (done : (id : ℕ) (rest : History) → IsDeleted id → P rest
      → P (events.retire c.stream id retiring.Done ∷ rest))
      (refused : (id : ℕ) → IsDeleted id
      → P (events.retire c.stream id retiring.NotLive ∷ [])) where
    at_holds : (ownership : Ownership) (is_dropped : ℕ
        → Bool) (earlier : List ℕ) (id : ℕ) (es : History)
        (v : LineVerdict) (A : History → Type 0)
        → IsDeleted id → ((rest : History) → A rest → P rest)
        → DeletesAt ownership c is_dropped earlier id es v A → P es
    at_holds ownerships.Formula is_dropped earlier id es v A is next
        (inl bad) = none_holds es bad.1.0
    at_holds ownerships.Formula is_dropped earlier id es v A is next (inr good) = next es good.1
    at_holds ownerships.Foreign is_dropped earlier id es v A is next
        (inl bad) = none_holds es bad.1.0
    at_holds ownerships.Foreign is_dropped earlier id es v A is next (inr good) = next es good.1
    at_holds ownerships.Outside is_dropped earlier id es v A is next at = none_holds es at.0
    at_holds ownerships.Own is_dropped earlier id es v A is next at = elim at.decided [
      | inl good ↦ subst P (sym good.0) (done id at.rest is (next at.rest good.1))
      | inr bad ↦
          let one = ap (λ r. events.retire c.stream id retiring.NotLive ∷ r) bad.1.0 in
          subst P (sym (bad.0 ∙ one)) (refused id is)
    ]

    pub identities_hold : (is_dropped : ℕ
        → Bool) (earlier ids : List ℕ) (es : History) (v : LineVerdict)
        → AllByRecursion IsDeleted ids → JudgesDeletion c is_dropped earlier ids es v → P es
    identities_hold is_dropped earlier [] es v all judged = none_holds es judged.0
    identities_hold is_dropped earlier (id ∷ ids) es v all judged =
        at_holds (ownership_of c id) is_dropped earlier id es v
        (λ rest. JudgesDeletion c is_dropped (earlier ++ id ∷ []) ids rest v) all.0
        (λ rest k. identities_hold is_dropped (earlier ++ id ∷ []) ids rest v all.1 k) judged

-- Any hint

abbrev pub IsAny : ℕ → Type 0
IsAny h = Unit {0}

pub all_any : (hints : List ℕ) → AllByRecursion IsAny hints
all_any [] = tt
all_any (h ∷ hints) = (tt, all_any hints)

-- What holds for each fetch of a hint

vacants_are : (P : Event → Type 0) (s id k : ℕ) (r : Reply)
    → ((x : Reply) → P (events.fetch s id x))
    → AllByRecursion P (replicate k (events.fetch s id events.vacant) ++ events.fetch s id r ∷ [])
vacants_are P s id zero r each = (each r, tt)
vacants_are P s id (suc k) r each = (each events.vacant, vacants_are P s id k r each)

asked_at : (ownership : Ownership) (P : Event → Type 0) (c : StreamParams) (h : ℕ)
    (es : History) (r : Reply)
    → ((x : Reply) → P (events.fetch c.stream h x)) → FetchesHintAt ownership c h es r
    → AllByRecursion P es
asked_at ownerships.Formula P c h es r each asks = subst (AllByRecursion P) (sym asks) (each r, tt)
asked_at ownerships.Own P c h es r each asks = subst (AllByRecursion P) (sym asks) (each r, tt)
asked_at ownerships.Foreign P c h es r each asks = subst (AllByRecursion P) (sym asks.3) (vacants_are P c.stream h asks.0 r each)
asked_at ownerships.Outside P c h es r each asks = subst (AllByRecursion P) (sym asks.0) tt

pub asked_are : (P : Event → Type 0) (c : StreamParams) (h : ℕ) (es : History) (r : Reply)
    → ((x : Reply) → P (events.fetch c.stream h x)) → FetchesHint c h es r → AllByRecursion P es
asked_are P c h es r each asks = asked_at (ownership_of c h) P c h es r each asks

pub asked_more : (P : Event → Type 0) (c : StreamParams) (h : ℕ) (asked rest : History) (r : Reply)
    → ((x : Reply) → P (events.fetch c.stream h x)) → FetchesHint c h asked r
    → AllByRecursion P rest
    → AllByRecursion P (asked ++ rest)
asked_more P c h asked rest r each asks all = All-append P asked rest (asked_are P c h asked r each asks) all

-- What holds for each fetch, and for the publish of a good addition

module _ (c : StreamParams) (P : Event → Type 0)
    (fetches : (id : ℕ) (r : Reply) → P (events.fetch c.stream id r)) where
  fetches_more : (h : ℕ) (asked rest : History) (r : Reply) → IsAny h → FetchesHint c h asked r
      → (r ≡ events.vacant → rest ≡ []) → AllByRecursion P rest → AllByRecursion P (asked ++ rest)
  fetches_more h asked rest r any asks ends all =
      asked_more P c h asked rest r (fetches h) asks all

  pub found_all : (is_dropped : ℕ → Bool) (hints : List ℕ) (ds : List Clause) (es : History)
      → AreFound c is_dropped hints ds es → AllByRecursion P es
  found_all is_dropped hints ds es found =
      subst (AllByRecursion P) (append-nil es)
      (found_hold c (AllByRecursion P) tt IsAny fetches_more is_dropped hints ds es []
      (all_any hints)
      found tt)

  pub fails_all : (is_dropped : ℕ → Bool) (n : List ℤ) (hints : List ℕ) (es : History)
      (fault : Fault)
      → FailsHints c is_dropped n hints es fault → AllByRecursion P es
  fails_all is_dropped n hints es fault fails =
      fails_hold c (AllByRecursion P) tt IsAny fetches_more is_dropped n hints es fault
      (all_any hints)
      fails

  pub addition_all : (id : ℕ) (lits : List ℤ) (v : LineVerdict)
      → (v ≡ Good → P (published_by c id lits))
      → (st : StreamContext) (hints : List ℕ) (es : History)
      → JudgesAddition c st id lits hints es v → AllByRecursion P es
  addition_all id lits v publishes st hints es judged =
      addition_holds c (AllByRecursion P) tt IsAny fetches_more st id lits hints es v
      (λ good. (publishes good, tt)) (all_any hints) judged

  pub import_all : (st : StreamContext) (id : ℕ) (lits : List ℤ) (es : History) (v : LineVerdict)
      → JudgesImport c st id lits es v → AllByRecursion P es
  import_all st id lits es v judged =
      import_holds c (AllByRecursion P) tt IsAny fetches_more st id lits es v tt judged
