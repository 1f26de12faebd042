-- The events of a line.
use Rattle.std.proofs.Common.{◌≡◌, ℕ, zero, suc, Bool, IsTrue, [], ◌∷◌, ◌++◌, replicate, refl, sym, subst, append_assoc}
use Rattle.std.specs.List.{AllByRecursion}
use Rattle.lrup_model.specs.Clause.{Clause}
use Rattle.lrup_model.specs.Event as events
use Rattle.lrup_model.specs.Event.{Event, History, Reply}
use Rattle.lrup_model.specs.declared.clause_map.Published.{Published}
use Rattle.lrup_model.specs.declared.clause_map.Retired.TheVariants as retiring
use Rattle.lrup_text.specs.Lines.{StreamLine, Addition, Deletion, Import}
use Rattle.lrup_model.specs.Distinct.{distinct}
use Rattle.stream_check.specs.declared.params.Ownership.{Ownership}
use Rattle.stream_check.specs.declared.params.Ownership.TheVariants as ownerships
use Rattle.stream_check.specs.StreamParams.{StreamParams, ownership_of}
use Rattle.stream_check.specs.StreamContext.{StreamContext}
use Rattle.stream_check.specs.Verdicts.{LineVerdict}
use Rattle.stream_check.specs.Lookup.{FetchesHintAt, FetchesHint}
use Rattle.stream_check.specs.lemmas.EventLemmas.{addition_holds, import_holds, identities_hold, IsAny, all_any, asked_are, asked_more}
use Rattle.stream_check.specs.Judging.{JudgesLine}
use Rattle.stream_check.specs.Reducing.{IsEarly, AreEarly, StartsWithFetchOf, TriesAgain}
use Rattle.stream_check.specs.Laws.{EarlyEvents, VacantTriesAgain, cited_by, FetchesOnly}

-- What holds for the events of a line, from the last one on

-- P holds for the empty list, a single publish, and a single retire whose reply is NotLive; and if
-- it holds for some events, it also holds with a retire or the events of a hint in front of them
pub record Holds (c : StreamParams) (IsHint : ℕ → Type 0) (P : History → Type 0) : Type 0 where
  pub none : P []
  pub published : (id : ℕ) (d : Clause) (r : Published) → P (events.publish c.stream id d r ∷ [])
  pub asked : (h : ℕ) (asked rest : History) (r : Reply) → IsHint h → FetchesHint c h asked r → (r ≡ events.vacant → rest ≡ []) → P rest
      → P (asked ++ rest)
  pub retired : (id : ℕ) (rest : History) → P rest → P (events.retire c.stream id retiring.Done ∷ rest)
  pub refused : (id : ℕ) → P (events.retire c.stream id retiring.NotLive ∷ [])

module _ (c : StreamParams) (IsHint : ℕ → Type 0) (P : History → Type 0) (holds : Holds c IsHint P) where
  pub line_holds : (st : StreamContext) (line : StreamLine) (es : History) (v : LineVerdict) → AllByRecursion IsHint (cited_by line)
      → JudgesLine c st line es v → P es
  line_holds st (Addition id lits hints) es v all judged =
      addition_holds c P holds.none IsHint holds.asked st id lits hints es v (λ good. holds.published id (distinct lits) _) all judged
  line_holds st (Deletion lead ids) es v all judged =
      identities_hold c P holds.none IsAny (λ id rest any. holds.retired id rest) (λ id any. holds.refused id) st.is_dropped [] ids es v
      (all_any ids) judged
  line_holds st (Import id lits) es v all judged = import_holds c P holds.none IsHint holds.asked st id lits es v all.0 judged

-- Before the last event

early_before : (e : Event) (es : History) → IsEarly e → AreEarly es → AreEarly (e ∷ es)
early_before e [] is early = tt
early_before e (f ∷ es) is early = (is, early)

early_append : (a b : History) → AllByRecursion IsEarly a → AreEarly b → AreEarly (a ++ b)
early_append [] b all early = early
early_append (e ∷ a) b all early = early_before e (a ++ b) all.0 (early_append a b all.1 early)

pub early_events : EarlyEvents
early_events c st line es v judged =
    line_holds c IsAny AreEarly (record {
      none = tt;
      published = λ id d r. tt;
      asked = λ h asked rest r any asks ends early. early_append asked rest (asked_are IsEarly c h asked r (λ x. tt) asks) early;
      retired = λ id rest early. early_before (events.retire c.stream id retiring.Done) rest tt early;
      refused = λ id. tt;
    }) st line es v (all_any (cited_by line)) judged

-- Vacant fetches

tries_last : (s id : ℕ) (r : Reply) (rest : History) → (r ≡ events.vacant → rest ≡ []) → TriesAgain rest
    → TriesAgain (events.fetch s id r ∷ rest)
tries_last s id events.vacant rest ends tries = (subst (StartsWithFetchOf id) (sym (ends refl)) tt, tries)
tries_last s id (events.live d) rest ends tries = tries
tries_last s id events.retired rest ends tries = tries

tries_vacants : (s id k : ℕ) (r : Reply) (rest : History) → (r ≡ events.vacant → rest ≡ []) → TriesAgain rest
    → TriesAgain (replicate k (events.fetch s id events.vacant) ++ events.fetch s id r ∷ rest)
tries_vacants s id zero r rest ends tries = tries_last s id r rest ends tries
tries_vacants s id (suc zero) r rest ends tries = (refl, tries_last s id r rest ends tries)
tries_vacants s id (suc (suc k)) r rest ends tries = (refl, tries_vacants s id (suc k) r rest ends tries)

tries_asked : (ownership : Ownership) (c : StreamParams) (h : ℕ) (asked rest : History) (r : Reply) → FetchesHintAt ownership c h asked r
    → (r ≡ events.vacant → rest ≡ []) → TriesAgain rest → TriesAgain (asked ++ rest)
tries_asked ownerships.Formula c h asked rest r asks ends tries = rw asks (tries_last c.stream h r rest ends tries)
tries_asked ownerships.Own c h asked rest r asks ends tries = rw asks (tries_last c.stream h r rest ends tries)
tries_asked ownerships.Foreign c h asked rest r asks ends tries =
    rw (asks.3, append_assoc (replicate asks.0 (events.fetch c.stream h events.vacant)) (events.fetch c.stream h r ∷ []) rest)
    (tries_vacants c.stream h asks.0 r rest ends tries)
tries_asked ownerships.Outside c h asked rest r asks ends tries = subst (λ a. TriesAgain (a ++ rest)) (sym asks.0) tries

pub vacant_tries_again : VacantTriesAgain
vacant_tries_again c st line es v judged =
    line_holds c IsAny TriesAgain (record {
      none = tt;
      published = λ id d r. tt;
      asked = λ h asked rest r any asks ends tries. tries_asked (ownership_of c h) c h asked rest r asks ends tries;
      retired = λ id rest tries. tries;
      refused = λ id. tt;
    }) st line es v (all_any (cited_by line)) judged

-- Cited identities that pass a test

pub line_fetches : (c : StreamParams) (p : ℕ → Bool) (st : StreamContext) (line : StreamLine) (es : History) (v : LineVerdict)
    → AllByRecursion (λ h. IsTrue (p h)) (cited_by line) → JudgesLine c st line es v → AllByRecursion (FetchesOnly p) es
line_fetches c p st line es v all judged =
    line_holds c (λ h. IsTrue (p h)) (AllByRecursion (FetchesOnly p)) (record {
      none = tt;
      published = λ id d r. (tt, tt);
      asked = λ h asked rest r passes asks ends all. asked_more (FetchesOnly p) c h asked rest r (λ x. passes) asks all;
      retired = λ id rest all. (tt, all);
      refused = λ id. (tt, tt);
    }) st line es v all judged
