-- One line in two histories: if it is good in one, then in the other it is good or lacks a clause
-- of another stream.
use Rattle.std.proofs.Common.{◌≡◌, ◌⊎◌, ◌++◌, ℕ, zero, suc, ℤ, neg_ℤ, Bool, List, [], ◌∷◌, length, replicate, Result, Ok, Err, inl, inr}
use Rattle.std.proofs.Common.{refl, sym, ap, subst, ◌∙◌, append_assoc, append-nil}
use Rattle.std.specs.Prelude.{◌↔◌}
use Rattle.std.specs.List.{AllByRecursion}
use Rattle.std.proofs.lemmas.Bool.{true≢false}
use Rattle.lrup_model.specs.Clause.{Clause, Has}
use Rattle.lrup_model.specs.Distinct.{distinct}
use Rattle.lrup_model.specs.Event as events
use Rattle.lrup_model.specs.Event.{Event, History, Reply, published}
use Rattle.lrup_model.specs.lemmas.HistoryLemmas.{published-append}
use Rattle.lrup_model.specs.Propagation.{Refutes}
use Rattle.lrup_model.specs.lemmas.RunningLemmas.{run-append}
use Rattle.lrup_model.specs.State.{State, Slot, absent, live, retired, IsRetired, after, run, Answers, HasClause}
use Rattle.lrup_model.specs.declared.clause_map.Retired.TheVariants as retiring
use Rattle.lrup_text.specs.Lines.{StreamLine, Addition, Deletion, Import}
use Rattle.stream_check.specs.declared.fault.Fault.{Fault}
use Rattle.stream_check.specs.declared.fault.Fault.TheVariants as faults
use Rattle.stream_check.specs.declared.params.Ownership.{Ownership}
use Rattle.stream_check.specs.declared.params.Ownership.TheVariants as ownerships
use Rattle.stream_check.specs.lemmas.AdditionLemmas.{run-fetches, valid_passes, found_live, no_help, refutes_on}
use Rattle.stream_check.specs.Additions.{FailsBy, FailsHints, JudgesAddition, published_by}
use Rattle.stream_check.specs.Lookup.{FetchesHintAt, answer_of, LooksUp, AreFound}
use Rattle.stream_check.specs.internal.Checking.{IsFetch}
use Rattle.stream_check.specs.Deletions.{IsRetire, DeletesAt, JudgesDeletion}
use Rattle.stream_check.specs.lemmas.EventLemmas.{found_all, addition_all, import_all}
use Rattle.stream_check.specs.Imports.{JudgesImport}
use Rattle.stream_check.specs.Judging.{JudgesLine}
use Rattle.stream_check.specs.StreamParams.{StreamParams, ownership_of}
use Rattle.stream_check.specs.StreamContext.{StreamContext, additions_of}
use Rattle.stream_check.specs.Verdicts.{LineVerdict, Good, Bad, Fails}
use Rattle.run_laws.proofs.KindLemmas.{all_retire, identities_all}
use Rattle.run_laws.proofs.SwapLemmas.{identity_of}

-- Fair events

-- the identity is the formula's or the stream's own
abbrev pub IsNear : Ownership → Type 0
IsNear ownerships.Formula = Unit {0}
IsNear ownerships.Own = Unit {0}
IsNear ownerships.Foreign = ⊥
IsNear ownerships.Outside = ⊥

-- if the event found a clause of another stream, `Found` holds for its identity and the clause
abbrev pub IsFoundIn : StreamParams → (ℕ → Clause → Type 0) → Event → Type 0
IsFoundIn c Found (events.fetch s id events.vacant) = Unit {0}
IsFoundIn c Found (events.fetch s id (events.live d)) = ownership_of c id ≡ ownerships.Foreign → Found id d
IsFoundIn c Found (events.fetch s id events.retired) = Unit {0}
IsFoundIn c Found (events.publish s id d r) = Unit {0}
IsFoundIn c Found (events.retire s id r) = Unit {0}

-- starting from this state, each event with an identity of the formula or of the stream has the
-- reply that the state after the earlier events gives, and `Found` holds for what is found from
-- other streams
abbrev pub AreFair : StreamParams → (ℕ → Clause → Type 0) → State → History → Type 0
AreFair c Found m [] = Unit {0}
AreFair c Found m (e ∷ es) = (IsNear (ownership_of c (identity_of e)) → Answers m e) × IsFoundIn c Found e × AreFair c Found (after m e) es

-- under one identity, both histories find the same clause of another stream
abbrev pub FindAlike : StreamParams → (ℕ → Clause → Type 0) → (ℕ → Clause → Type 0) → Type 0
FindAlike c Mine Theirs = (id : ℕ) (d e : Clause) → ownership_of c id ≡ ownerships.Foreign → Mine id d → Theirs id e → d ≡ e

-- the fetch of hint h had this reply, and the later events are fair, too
pub record IsAsked (c : StreamParams) (Found : ℕ → Clause → Type 0) (m : State) (h : ℕ) (r : Reply) (rest : History) : Type 0 where
  pub near : IsNear (ownership_of c h) → Answers m (events.fetch c.stream h r)
  pub found : IsFoundIn c Found (events.fetch c.stream h r)
  pub later : AreFair c Found m rest

vacants_fair : (c : StreamParams) (Found : ℕ → Clause → Type 0) (m : State) (h n : ℕ) (r : Reply) (rest : History)
    → AreFair c Found m ((replicate n (events.fetch c.stream h events.vacant) ++ events.fetch c.stream h r ∷ []) ++ rest)
    → IsAsked c Found m h r rest
vacants_fair c Found m h zero r rest fair = record { near = fair.0; found = fair.1; later = fair.2 }
vacants_fair c Found m h (suc n) r rest fair = vacants_fair c Found m h n r rest fair.2

pub asked_fair : (ownership : Ownership) (c : StreamParams) (Found : ℕ → Clause → Type 0) (m : State) (h : ℕ)
    (asked rest : History) (r : Reply)
    → ownership_of c h ≡ ownership → FetchesHintAt ownership c h asked r → AreFair c Found m (asked ++ rest) → IsAsked c Found m h r rest
asked_fair ownerships.Foreign c Found m h asked rest r is asks fair = vacants_fair c Found m h asks.0 r rest (rw asks.3 at fair)
asked_fair ownerships.Outside c Found m h asked rest r is asks fair = record {
  near = λ near. absurd (subst IsNear is near);
  found = subst (λ (x : Reply). IsFoundIn c Found (events.fetch c.stream h x)) (sym asks.1) tt;
  later = subst (λ (a : History). AreFair c Found m (a ++ rest)) asks.0 fair;
}
asked_fair _ c Found m h asked rest r is asks fair =
    let here = subst (λ (a : History). AreFair c Found m (a ++ rest)) asks fair in record { near = here.0; found = here.1; later = here.2 }

-- if the state has a live clause at the identity, the reply to a fetch is this clause
fetch_live : (m : State) (s id : ℕ) (d : Clause) (r : Reply) → Answers m (events.fetch s id (events.live d))
    → Answers m (events.fetch s id r) → r ≡ events.live d
fetch_live m s id d events.vacant is answers = absurd (let no : live d ≡ absent = sym is ∙ answers in cc)
fetch_live m s id d (events.live e) is answers = let same : live e ≡ live d = sym answers ∙ is in cc
fetch_live m s id d events.retired is answers = absurd (subst IsRetired is answers)

pub same_clause : (slot : Slot) (d e : Clause) → HasClause slot d → HasClause slot e → d ≡ e
same_clause absent d e a b = absurd a
same_clause (live x) d e a b = sym a ∙ b
same_clause (retired x) d e a b = sym a ∙ b

-- the fault is that another stream's clause, which the first history finds, isn't there yet in the
-- second, or has been retired there
abbrev IsLackOf : StreamParams → (ℕ → Clause → Type 0) → ℕ → Clause → Fault → Type 0
IsLackOf c Mine h d fault = (ownership_of c h ≡ ownerships.Foreign) × Mine h d × ((fault ≡ faults.Missing h) ⊎ (fault ≡ faults.Retired h))

-- the look-up finds this clause, or fails because the clause isn't there
abbrev IsThatOrLacks : StreamParams → (ℕ → Clause → Type 0) → ℕ → Clause → Result Clause Fault → Type 0
IsThatOrLacks c Mine h d answer = (answer ≡ Ok d) ⊎ ((fault : Fault) × (answer ≡ Err fault) × IsLackOf c Mine h d fault)

foreign_agree : (c : StreamParams) (Mine Theirs : ℕ → Clause → Type 0) (m : State) (h : ℕ) (rest left : History) (d : Clause) (r : Reply)
    → FindAlike c Mine Theirs → ownership_of c h ≡ ownerships.Foreign → IsAsked c Mine m h (events.live d) rest
    → IsAsked c Theirs m h r left
    → IsThatOrLacks c Mine h d (answer_of h r)
foreign_agree c Mine Theirs m h rest left d events.vacant alike is mine theirs =
    inr (faults.Missing h, refl, (is, mine.found is, inl refl))
foreign_agree c Mine Theirs m h rest left d events.retired alike is mine theirs =
    inr (faults.Retired h, refl, (is, mine.found is, inr refl))
foreign_agree c Mine Theirs m h rest left d (events.live e) alike is mine theirs =
    inl (ap (λ (x : Clause). Ok x) (sym (alike h d e is (mine.found is) (theirs.found is))))

replies_agree : (ownership : Ownership) (c : StreamParams) (Mine Theirs : ℕ → Clause → Type 0) (m : State) (h : ℕ) (rest left : History)
    (d : Clause)
    (r : Reply) (asked : History)
    → FindAlike c Mine Theirs → ownership_of c h ≡ ownership → FetchesHintAt ownership c h asked (events.live d)
    → IsAsked c Mine m h (events.live d) rest
    → IsAsked c Theirs m h r left → IsThatOrLacks c Mine h d (answer_of h r)
replies_agree ownerships.Foreign c Mine Theirs m h rest left d r asked alike is asks mine theirs =
    foreign_agree c Mine Theirs m h rest left d r alike is mine theirs
replies_agree ownerships.Outside c Mine Theirs m h rest left d r asked alike is asks mine theirs =
    absurd (let no : events.live d ≡ events.vacant = asks.1 in cc)
replies_agree _ c Mine Theirs m h rest left d r asked alike is asks mine theirs =
    let near : IsNear (ownership_of c h) = subst IsNear (sym is) tt in
    inl (ap (answer_of h) (fetch_live m c.stream h d r (mine.near near) (theirs.near near)))

-- the first history's look-up finds this clause; the second history's look-up finds it, too, or
-- fails because the clause isn't there; and the events after both look-ups are fair
record LooksAlike (c : StreamParams) (Mine Theirs : ℕ → Clause → Type 0) (m : State) (h : ℕ) (d : Clause) (answer : Result Clause Fault)
    (rest left : History) : Type 0 where
  that : IsThatOrLacks c Mine h d answer
  mine : AreFair c Mine m rest
  theirs : AreFair c Theirs m left

looks_agree : (c : StreamParams) (Mine Theirs : ℕ → Clause → Type 0) (m : State) (is_dropped : ℕ → Bool) (h : ℕ)
    (fs asked rest es also left : History)
    (d : Clause) (answer : Result Clause Fault)
    → FindAlike c Mine Theirs → fs ≡ asked ++ rest → es ≡ also ++ left → AreFair c Mine m fs → AreFair c Theirs m es
    → LooksUp c is_dropped h asked (Ok d) → LooksUp c is_dropped h also answer → LooksAlike c Mine Theirs m h d answer rest left
looks_agree c Mine Theirs m is_dropped h fs asked rest es also left d answer alike one two mine theirs found (inl dropped) =
    absurd (true≢false (sym dropped.0 ∙ (found_live c is_dropped h asked d found).0))
looks_agree c Mine Theirs m is_dropped h fs asked rest es also left d answer alike one two mine theirs found (inr other) =
    let was = found_live c is_dropped h asked d found in
    let here = asked_fair (ownership_of c h) c Mine m h asked rest (events.live d) refl was.1 (rw one at mine) in
    let there = asked_fair (ownership_of c h) c Theirs m h also left other.1 refl other.2 (rw two at theirs) in
    record {
      that = rw other.3 (replies_agree (ownership_of c h) c Mine Theirs m h rest left d other.1 asked alike refl was.1 here there);
      mine = here.later;
      theirs = there.later;
    }

-- Hints

-- the fault is that another stream's clause, which the first history found, isn't there yet or has
-- been retired
abbrev pub Lacks : StreamParams → (ℕ → Clause → Type 0) → Fault → Type 0
Lacks c Mine fault = (h : ℕ) × (d : Clause) × (ownership_of c h ≡ ownerships.Foreign) × Mine h d
    × ((fault ≡ faults.Missing h) ⊎ (fault ≡ faults.Retired h))

pub fails_not : (deleted : ℕ) (fault : Fault) (es : History) → Fails deleted fault es Good → ⊥
fails_not deleted fault es f = let e : Good ≡ Bad deleted fault = f.1 in cc

lacks_it : (c : StreamParams) (Mine : ℕ → Clause → Type 0) (h : ℕ) (d : Clause) (its fault : Fault) → fault ≡ its → IsLackOf c Mine h d its
    → Lacks c Mine fault
lacks_it c Mine h d its fault same lack =
    (h, d, lack.0, lack.1, elim lack.2 [ inl none ↦ inl (same ∙ none) | inr is_dropped ↦ inr (same ∙ is_dropped) ])

by_agrees : (c : StreamParams) (Mine : ℕ → Clause → Type 0) (is_dropped : ℕ → Bool) (n : List ℤ) (d : Clause) (ds : List Clause) (h : ℕ)
    (hints : List ℕ) (rest : History) (answer : Result Clause Fault) (es : History) (fault : Fault) (A : List ℤ → Type 0)
    → Refutes n (d ∷ ds) → AreFound c is_dropped hints ds rest
    → ((l : ℤ) → Refutes (n ++ neg_ℤ l ∷ []) ds → A (n ++ neg_ℤ l ∷ []) → Lacks c Mine fault)
    → IsThatOrLacks c Mine h d answer → FailsBy answer n h hints es fault A → Lacks c Mine fault
by_agrees c Mine is_dropped n d ds h hints rest answer es fault A refutes found next (inl that) fails = elim (rw that at fails) [
  | inl unit ↦ next unit.0 (refutes_on n d ds unit.0 refutes unit.1) unit.2
  | inr misleads ↦ absurd (no_help n d ds c is_dropped h hints rest fault refutes found misleads.1)
]
by_agrees c Mine is_dropped n d ds h hints rest answer es fault A refutes found next (inr (its, is, lack)) fails =
    lacks_it c Mine h d its fault (subst (λ (x : Result Clause Fault). FailsBy x n h hints es fault A) is fails).1 lack

hints_agree : (c : StreamParams) (Mine Theirs : ℕ → Clause → Type 0) (m : State) (is_dropped : ℕ → Bool) (n : List ℤ) (hints : List ℕ)
    (ds : List Clause) (fetches tail es : History) (fault : Fault)
    → FindAlike c Mine Theirs → AreFound c is_dropped hints ds fetches → Refutes n ds → AreFair c Mine m (fetches ++ tail)
    → AreFair c Theirs m es
    → FailsHints c is_dropped n hints es fault → Lacks c Mine fault
hints_agree c Mine Theirs m is_dropped n [] [] fetches tail es fault alike found refutes mine theirs fails = absurd refutes
hints_agree c Mine Theirs m is_dropped n [] (d ∷ ds) fetches tail es fault alike found refutes mine theirs fails = absurd found
hints_agree c Mine Theirs m is_dropped n (h ∷ hints) [] fetches tail es fault alike found refutes mine theirs fails = absurd found
hints_agree c Mine Theirs m is_dropped n (h ∷ hints) (d ∷ ds) fetches tail es fault alike found refutes mine theirs fails =
    let both = looks_agree c Mine Theirs m is_dropped h (fetches ++ tail) found.0 (found.1 ++ tail) es fails.0 fails.1 d fails.3 alike
    (ap (λ (x : History). x ++ tail) found.2 ∙ append_assoc found.0 found.1 tail) fails.2 mine theirs found.3 fails.4 in
    by_agrees c Mine is_dropped n d ds h hints found.1 fails.3 fails.1 fault
    (λ p. FailsHints c is_dropped p hints fails.1 fault) refutes found.4
    (λ l more next. hints_agree c Mine Theirs m is_dropped
    (n ++ neg_ℤ l ∷ []) hints ds found.1 tail fails.1 fault alike found.4 more both.mine
    both.theirs next) both.that fails.5

-- Imports

import_agrees : (c : StreamParams) (Mine Theirs : ℕ → Clause → Type 0) (m : State) (st : StreamContext) (id : ℕ) (lits : List ℤ)
    (fs es : History)
    (deleted : ℕ) (fault : Fault)
    → FindAlike c Mine Theirs → JudgesImport c st id lits fs Good → AreFair c Mine m fs → AreFair c Theirs m es
    → JudgesImport c st id lits es (Bad deleted fault) → Lacks c Mine fault
import_agrees c Mine Theirs m st id lits fs es deleted fault alike good mine theirs (none, inl bad) =
    absurd (bad.0 (good.identity, good.other))
import_agrees c Mine Theirs m st id lits fs es deleted fault alike good mine theirs (none, inr (a, inl bad)) = absurd (bad.0 good.literals)
import_agrees c Mine Theirs m st id lits fs es deleted fault alike good mine theirs (none, inr (a, inr (b, inl unfound))) =
    let both = looks_agree c Mine Theirs m st.is_dropped id fs good.named.0 good.named.1 es es [] good.clause (Err fault) alike
    good.named.2 (sym (append-nil es)) mine theirs good.named.3 unfound in
    elim both.that [
      | inl that ↦ absurd (cc)
      | inr lack ↦ lacks_it c Mine id good.clause lack.0 fault (let is = lack.1 in cc) lack.2
    ]
import_agrees c Mine Theirs m st id lits fs es deleted fault alike good mine theirs (none, inr (a, inr (b, inr differs))) =
    let both = looks_agree c Mine Theirs m st.is_dropped id fs good.named.0 good.named.1 es es [] good.clause (Ok differs.0) alike
    good.named.2 (sym (append-nil es)) mine theirs good.named.3 differs.1 in
    elim both.that [
      | inl that ↦
          let same : good.clause ≡ differs.0 = cc in
          absurd (differs.2 (subst (λ (x : Clause). (l : ℤ) → Has x l ↔ Has lits l) same good.same))
      | inr lack ↦ absurd (let is = lack.1 in cc)
    ]

-- Deletions

-- if deleting an identity is good in one history, it is good in the other with the same events,
-- provided that this holds for the rest of the deletion
at_agrees : (ownership : Ownership) (c : StreamParams) (Mine Theirs : ℕ → Clause → Type 0) (m : State) (is_dropped : ℕ → Bool)
    (earlier : List ℕ) (id : ℕ)
    (fs es : History) (v : LineVerdict) (A B : History → Type 0)
    → ownership_of c id ≡ ownership
    → ((n : State) (xs ys : History) → A xs → B ys → AreFair c Mine n xs → AreFair c Theirs n ys → (v ≡ Good) × (xs ≡ ys))
    → AreFair c Mine m fs → AreFair c Theirs m es
    → DeletesAt ownership c is_dropped earlier id fs Good A → DeletesAt ownership c is_dropped earlier id es v B → (v ≡ Good) × (fs ≡ es)
at_agrees ownerships.Formula c Mine Theirs m is_dropped earlier id fs es v A B is next mine theirs (inl bad) at =
    absurd (fails_not (length earlier) (faults.NotLive id) fs bad.1)
at_agrees ownerships.Formula c Mine Theirs m is_dropped earlier id fs es v A B is next mine theirs (inr good) (inl bad) =
    absurd (true≢false (sym bad.0 ∙ good.0))
at_agrees ownerships.Formula c Mine Theirs m is_dropped earlier id fs es v A B is next mine theirs (inr good) (inr also) =
    next m fs es good.1 also.1 mine theirs
at_agrees ownerships.Foreign c Mine Theirs m is_dropped earlier id fs es v A B is next mine theirs (inl bad) at =
    absurd (fails_not (length earlier) (faults.NotLive id) fs bad.1)
at_agrees ownerships.Foreign c Mine Theirs m is_dropped earlier id fs es v A B is next mine theirs (inr good) (inl bad) =
    absurd (true≢false (sym bad.0 ∙ good.0))
at_agrees ownerships.Foreign c Mine Theirs m is_dropped earlier id fs es v A B is next mine theirs (inr good) (inr also) =
    next m fs es good.1 also.1 mine theirs
at_agrees ownerships.Outside c Mine Theirs m is_dropped earlier id fs es v A B is next mine theirs bad at =
    absurd (fails_not (length earlier) (faults.NotLive id) fs bad)
at_agrees ownerships.Own c Mine Theirs m is_dropped earlier id fs es v A B is next mine theirs one at =
    let near : IsNear (ownership_of c id) = subst IsNear (sym is) tt in
    let done = events.retire c.stream id retiring.Done in
    elim one.decided [
      | inr bad ↦ absurd (fails_not (length earlier) (faults.NotLive id) one.rest bad.1)
      | inl good ↦
          let here = subst (AreFair c Mine m) good.0 mine in
          elim at.decided [
            | inr bad ↦ absurd ((subst (AreFair c Theirs m) bad.0 theirs).0 near (here.0 near))
            | inl also ↦
                let there = subst (AreFair c Theirs m) also.0 theirs in
                let rest = next (after m done) one.rest at.rest good.1 also.1 here.2 there.2 in
                (rest.0, good.0 ∙ ap (λ (x : History). done ∷ x) rest.1 ∙ sym also.0)
          ]
    ]

pub deletion_agrees : (c : StreamParams) (Mine Theirs : ℕ → Clause → Type 0) (m : State) (is_dropped : ℕ → Bool) (earlier ids : List ℕ)
    (fs es : History) (v : LineVerdict)
    → AreFair c Mine m fs → AreFair c Theirs m es → JudgesDeletion c is_dropped earlier ids fs Good
    → JudgesDeletion c is_dropped earlier ids es v
    → (v ≡ Good) × (fs ≡ es)
deletion_agrees c Mine Theirs m is_dropped earlier [] fs es v mine theirs one other = (other.1, one.0 ∙ sym other.0)
deletion_agrees c Mine Theirs m is_dropped earlier (id ∷ ids) fs es v mine theirs one other =
    at_agrees (ownership_of c id) c Mine Theirs m is_dropped earlier id fs es v
    (λ rest. JudgesDeletion c is_dropped (earlier ++ id ∷ []) ids rest Good)
    (λ rest. JudgesDeletion c is_dropped (earlier ++ id ∷ []) ids rest v) refl
    (λ n xs ys a b fair also. deletion_agrees c Mine Theirs n is_dropped
    (earlier ++ id ∷ []) ids xs ys v fair also a b) mine theirs one other

-- Lines

pub line_agrees : (c : StreamParams) (Mine Theirs : ℕ → Clause → Type 0) (m : State) (st : StreamContext) (line : StreamLine)
    (fs es : History)
    (deleted : ℕ) (fault : Fault)
    → FindAlike c Mine Theirs → AreFair c Mine m fs → AreFair c Theirs m es → JudgesLine c st line fs Good
    → JudgesLine c st line es (Bad deleted fault) → Lacks c Mine fault
line_agrees c Mine Theirs m st (Addition id lits hints) fs es deleted fault alike mine theirs (fetches, good, is) other =
    hints_agree c Mine Theirs m st.is_dropped (distinct lits) hints good.clauses fetches
    (published_by c id lits ∷ []) es fault alike good.named
    good.shown.1 (subst (AreFair c Mine m) is mine) theirs (valid_passes c st fetches id lits hints es fault _ good other.1)
line_agrees c Mine Theirs m st (Deletion lead ids) fs es deleted fault alike mine theirs one other =
    let good = (deletion_agrees c Mine Theirs m st.is_dropped [] ids fs es (Bad deleted fault) mine theirs one other).0 in absurd (cc)
line_agrees c Mine Theirs m st (Import id lits) fs es deleted fault alike mine theirs one other =
    import_agrees c Mine Theirs m st id lits fs es deleted fault alike one mine theirs other

-- What a good line leaves and publishes

published-fetches : (es : History) → AllByRecursion IsFetch es → published es ≡ []
published-fetches [] all = refl
published-fetches (events.fetch s id r ∷ es) all = published-fetches es all.1
published-fetches (events.publish s id d r ∷ es) all = absurd all.0
published-fetches (events.retire s id r ∷ es) all = absurd all.0

published-retires : (es : History) → AllByRecursion IsRetire es → published es ≡ []
published-retires [] all = refl
published-retires (events.fetch s id r ∷ es) all = absurd all.0
published-retires (events.publish s id d r ∷ es) all = absurd all.0
published-retires (events.retire s id r ∷ es) all = published-retires es all.1

pub good_runs : (c : StreamParams) (st : StreamContext) (m : State) (id : ℕ) (lits : List ℤ) (hints : List ℕ) (es : History)
    → JudgesAddition c st id lits hints es Good → run m es ≡ after m (published_by c id lits)
good_runs c st m id lits hints es (fetches, good, is) =
    ap (run m) is ∙ run-append m fetches (published_by c id lits ∷ [])
    ∙ ap (λ (n : State). after n (published_by c id lits)) (run-fetches m fetches
    (found_all c IsFetch (λ h r. tt) st.is_dropped hints good.clauses fetches good.named))

pub line_reaches : (c : StreamParams) (Mine Theirs : ℕ → Clause → Type 0) (m : State) (st : StreamContext) (line : StreamLine)
    (fs es : History)
    → AreFair c Mine m fs → AreFair c Theirs m es → JudgesLine c st line fs Good → JudgesLine c st line es Good → run m fs ≡ run m es
line_reaches c Mine Theirs m st (Addition id lits hints) fs es mine theirs one other =
    good_runs c st m id lits hints fs one ∙ sym (good_runs c st m id lits hints es other)
line_reaches c Mine Theirs m st (Deletion lead ids) fs es mine theirs one other =
    ap (run m) (deletion_agrees c Mine Theirs m st.is_dropped [] ids fs es Good mine theirs one other).1
line_reaches c Mine Theirs m st (Import id lits) fs es mine theirs one other =
    run-fetches m fs (import_all c IsFetch (λ h r. tt) st id lits fs Good one)
    ∙ sym (run-fetches m es (import_all c IsFetch (λ h r. tt) st id lits es Good other))

pub good_publishes : (c : StreamParams) (st : StreamContext) (line : StreamLine) (es : History) → JudgesLine c st line es Good
    → published es ≡ additions_of (line ∷ [])
good_publishes c st (Addition id lits hints) es (fetches, good, is) =
    ap published is ∙ published-append fetches (published_by c id lits ∷ [])
    ∙ ap (λ (x : List (ℕ × Clause)). x ++ published (published_by c id lits ∷ [])) (published-fetches fetches
    (found_all c IsFetch (λ h r. tt) st.is_dropped hints good.clauses fetches good.named))
good_publishes c st (Deletion lead ids) es judged =
    published-retires es (identities_all c IsRetire st.is_dropped [] ids es Good (all_retire c.stream ids) judged)
good_publishes c st (Import id lits) es judged = published-fetches es (import_all c IsFetch (λ h r. tt) st id lits es Good judged)

pub bad_publishes : (c : StreamParams) (st : StreamContext) (line : StreamLine) (es : History) (deleted : ℕ) (fault : Fault)
    → JudgesLine c st line es (Bad deleted fault) → published es ≡ []
bad_publishes c st (Addition id lits hints) es deleted fault judged =
    published-fetches es (addition_all c IsFetch (λ h r. tt) id lits (Bad deleted fault) (λ good. absurd (cc)) st hints es judged)
bad_publishes c st (Deletion lead ids) es deleted fault judged =
    published-retires es (identities_all c IsRetire st.is_dropped [] ids es (Bad deleted fault) (all_retire c.stream ids) judged)
bad_publishes c st (Import id lits) es deleted fault judged =
    published-fetches es (import_all c IsFetch (λ h r. tt) st id lits es (Bad deleted fault) judged)

-- a deletion of these identities publishes nothing
pub deletes_publish : (c : StreamParams) (is_dropped : ℕ → Bool) (ids : List ℕ) (es : History) → JudgesDeletion c is_dropped [] ids es Good
    → published es ≡ []
deletes_publish c is_dropped ids es judged = published-retires es
    (identities_all c IsRetire is_dropped [] ids es Good (all_retire c.stream ids) judged)
