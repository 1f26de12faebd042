-- Two judgements of one line, with events that never fork, agree.
use Rattle.std.proofs.Common.{◌≡◌, ℕ, ℤ, neg_ℤ, Bool, List, [], ◌∷◌, ◌++◌, length, Result, Ok, Err, inl, inr, refl, sym, ap}
use Rattle.std.proofs.Common.{subst, ◌∙◌, append_assoc}
use Rattle.std.specs.Prelude.{◌↔◌}
use Rattle.std.proofs.lemmas.Bool.{true≢false}
use Rattle.lrup_model.specs.Clause.{Clause, Has}
use Rattle.lrup_model.specs.Event as events
use Rattle.lrup_model.specs.Event.{History}
use Rattle.lrup_model.specs.Propagation.{IsUnit, Refutes}
use Rattle.lrup_model.specs.declared.clause_map.Retired.TheVariants as retiring
use Rattle.lrup_text.specs.Lines.{StreamLine, Addition, Deletion, Import}
use Rattle.lrup_model.specs.Distinct.{distinct}
use Rattle.propagate.specs.lemmas.HintLemmas.{unit_is_unique, unit_is_no_conflict}
use Rattle.stream_check.specs.declared.fault.Fault.{Fault}
use Rattle.stream_check.specs.declared.fault.Fault.TheVariants as faults
use Rattle.stream_check.specs.declared.params.Ownership.{Ownership}
use Rattle.stream_check.specs.declared.params.Ownership.TheVariants as ownerships
use Rattle.stream_check.specs.StreamParams.{StreamParams, ownership_of}
use Rattle.stream_check.specs.StreamContext.{StreamContext}
use Rattle.stream_check.specs.Verdicts.{LineVerdict, Good, Bad, Fails, Violates}
use Rattle.stream_check.specs.Lookup.{answer_of, LooksUp, AreFound}
use Rattle.stream_check.specs.Additions.{Misleads, FailsBy, FailsHints, published_by, JudgesAddition}
use Rattle.stream_check.specs.lemmas.AdditionLemmas.{valid_passes, no_help, refutes_on, found_one}
use Rattle.stream_check.specs.Deletions.{RetiresThen, DropsThen, DeletesAt, JudgesDeletion}
use Rattle.stream_check.specs.Imports.{JudgesImport}
use Rattle.stream_check.specs.Judging.{JudgesLine}
use Rattle.stream_check.specs.Forks.{NeverFork}
use Rattle.stream_check.proofs.ForkLemmas.{same_asked, never_fork_turned, never_fork_after}

pub record Agree (es : History) (v : LineVerdict) (fs : History) (w : LineVerdict) : Type 0 where
  pub events : es ≡ fs
  pub verdict : v ≡ w

fails_agree : (deleted : ℕ) (fault : Fault) (es fs : History) (v w : LineVerdict) → Fails deleted fault es v → Fails deleted fault fs w
    → Agree es v fs w
fails_agree deleted fault es fs v w a b = record { events = a.0 ∙ sym b.0; verdict = a.1 ∙ sym b.1 }

-- the same events, and the same fault
abbrev SameFault : History → Fault → History → Fault → Type 0
SameFault es v fs w = (es ≡ fs) × (v ≡ w)

violates_agree : (Holds : Type 0) (its : Fault) (es fs : History) (v w : Fault) (A B : Type 0) → (A → B → SameFault es v fs w)
    → Violates Holds its es v A → Violates Holds its fs w B → SameFault es v fs w
violates_agree Holds its es fs v w A B next (inl bad) (inl worse) = (bad.1 ∙ sym worse.1, bad.2 ∙ sym worse.2)
violates_agree Holds its es fs v w A B next (inl bad) (inr holds) = absurd (bad.0 holds.0)
violates_agree Holds its es fs v w A B next (inr good) (inl bad) = absurd (bad.0 good.0)
violates_agree Holds its es fs v w A B next (inr good) (inr holds) = next good.1 holds.1

both_bad : (m n : ℕ) (v w : Fault) (es fs : History) → m ≡ 0 → n ≡ 0 → SameFault es v fs w → Agree es (Bad m v) fs (Bad n w)
both_bad m n v w es fs one two same =
    record { events = same.0; verdict = ap (λ k. Bad k v) (one ∙ sym two) ∙ ap (λ f. Bad n f) same.1 }

-- Look-ups

-- two look-ups of one identity have the same events and answer, and the later events never fork
record LookedAlike (a : History) (x : Result Clause Fault) (b : History) (y : Result Clause Fault) (q r : History) : Type 0 where
  asked : a ≡ b
  answer : x ≡ y
  following : NeverFork q r

looks_agree : (c : StreamParams) (is_dropped : ℕ → Bool) (h : ℕ) (a b q r : History) (x y : Result Clause Fault)
    → LooksUp c is_dropped h a x
    → LooksUp c is_dropped h b y → NeverFork (a ++ q) (b ++ r) → (a ≡ b) × (x ≡ y)
looks_agree c is_dropped h a b q r x y (inl one) (inl two) never = (one.1 ∙ sym two.1, one.2 ∙ sym two.2)
looks_agree c is_dropped h a b q r x y (inl one) (inr two) never = absurd (true≢false (sym one.0 ∙ two.0))
looks_agree c is_dropped h a b q r x y (inr one) (inl two) never = absurd (true≢false (sym two.0 ∙ one.0))
looks_agree c is_dropped h a b q r x y (inr one) (inr two) never =
    let same = same_asked c h a b q r one.1 two.1 one.2 two.2 never in (same.0, one.3 ∙ ap (answer_of h) same.1 ∙ sym two.3)

after_looks : (c : StreamParams) (is_dropped : ℕ → Bool) (h : ℕ) (es a rest fs b left q r : History) (x y : Result Clause Fault)
    → es ≡ a ++ rest → fs ≡ b ++ left → LooksUp c is_dropped h a x → LooksUp c is_dropped h b y → NeverFork (es ++ q) (fs ++ r)
    → LookedAlike a x b y (rest ++ q) (left ++ r)
after_looks c is_dropped h es a rest fs b left q r x y one two first second never =
    let split = rw (ap (λ e. e ++ r) two ∙ append_assoc b left r, ap (λ e. e ++ q) one ∙ append_assoc a rest q) at never in
    let same = looks_agree c is_dropped h a b (rest ++ q) (left ++ r) x y first second split in
    record {
      asked = same.0;
      answer = same.1;
      following = never_fork_after a (rest ++ q) (left ++ r) (rw (← same.0) at split);
    }

-- Hints

-- hints that are found both times have the same events
found_agree : (c : StreamParams) (is_dropped : ℕ → Bool) (hints : List ℕ) (ds es : List Clause) (a b q r : History)
    → AreFound c is_dropped hints ds a
    → AreFound c is_dropped hints es b → NeverFork (a ++ q) (b ++ r) → a ≡ b
found_agree c is_dropped [] [] [] a b q r one two never = one ∙ sym two
found_agree c is_dropped [] (d ∷ ds) es a b q r one two never = absurd one
found_agree c is_dropped [] ds (e ∷ es) a b q r one two never = absurd two
found_agree c is_dropped (h ∷ hints) [] es a b q r one two never = absurd one
found_agree c is_dropped (h ∷ hints) ds [] a b q r one two never = absurd two
found_agree c is_dropped (h ∷ hints) (d ∷ ds) (e ∷ es) a b q r one two never =
    let same = after_looks c is_dropped h a one.0 one.1 b two.0 two.1 q r (Ok d) (Ok e) one.2 two.2 one.3 two.3 never in
    one.2 ∙ ap (λ x. x ++ one.1) same.asked
    ∙ ap (λ x. two.0 ++ x) (found_agree c is_dropped hints ds es one.1 two.1 q r one.4 two.4 same.following) ∙ sym two.2

-- hints whose clauses refute in one judgement don't fail in the other
never_both : (c : StreamParams) (is_dropped : ℕ → Bool) (n : List ℤ) (hints : List ℕ) (ds : List Clause) (a b q r : History) (fault : Fault)
    → AreFound c is_dropped hints ds a → Refutes n ds → FailsHints c is_dropped n hints b fault → NeverFork (a ++ q) (b ++ r) → ⊥
never_both c is_dropped n [] [] a b q r fault found refutes fails never = refutes
never_both c is_dropped n [] (d ∷ ds) a b q r fault found refutes fails never = found
never_both c is_dropped n (h ∷ hints) [] a b q r fault found refutes fails never = found
never_both c is_dropped n (h ∷ hints) (d ∷ ds) a b q r fault found refutes fails never =
    let same = after_looks c is_dropped h a found.0 found.1 b fails.0 fails.1 q r (Ok d) fails.3 found.2 fails.2 found.3 fails.4 never in
    let by = rw (← same.answer) at fails.5 in
    elim by [
      | inl unit ↦ never_both c is_dropped (n ++ neg_ℤ unit.0 ∷ []) hints ds found.1 fails.1 q r fault found.4
          (refutes_on n d ds unit.0 refutes
          unit.1) unit.2 same.following
      | inr misleads ↦ no_help n d ds c is_dropped h hints found.1 fault refutes found.4 misleads.1
    ]

misleads_agree : (n : List ℤ) (d : Clause) (h : ℕ) (hints : List ℕ) (v w : Fault) → Misleads n d h hints v → Misleads n d h hints w → v ≡ w
misleads_agree n d h hints v w (inl one) (inl two) = one.2 ∙ sym two.2
misleads_agree n d h hints v w (inl one) (inr two) = absurd (one.0 two.0)
misleads_agree n d h hints v w (inr one) (inl two) = absurd (two.0 one.0)
misleads_agree n d h hints v w (inr one) (inr two) =
    let same = sym one.3 ∙ two.3 in let next : one.1 ≡ two.1 = cc in one.4 ∙ ap (λ i. faults.Excess i) next ∙ sym two.4

misleads_never : (n : List ℤ) (d : Clause) (h : ℕ) (hints : List ℕ) (fault : Fault) (l : ℤ) → IsUnit n d l → Misleads n d h hints fault → ⊥
misleads_never n d h hints fault l unit (inl neither) = neither.1 l unit
misleads_never n d h hints fault l unit (inr excess) = unit_is_no_conflict n d l unit excess.0

by_agree : (answer : Result Clause Fault) (n : List ℤ) (h : ℕ) (hints : List ℕ) (es fs : History) (v w : Fault) (A B : List ℤ → Type 0)
    → ((m : List ℤ) → A m → B m → SameFault es v fs w)
    → FailsBy answer n h hints es v A → FailsBy answer n h hints fs w B → SameFault es v fs w
by_agree (Err its) n h hints es fs v w A B next a b = (a.0 ∙ sym b.0, a.1 ∙ sym b.1)
by_agree (Ok d) n h hints es fs v w A B next (inl one) (inl two) =
    next (n ++ neg_ℤ one.0 ∷ []) one.2 (subst (λ l. B (n ++ neg_ℤ l ∷ [])) (unit_is_unique n d two.0 one.0 two.1 one.1) two.2)
by_agree (Ok d) n h hints es fs v w A B next (inl one) (inr two) = absurd (misleads_never n d h hints w one.0 one.1 two.1)
by_agree (Ok d) n h hints es fs v w A B next (inr one) (inl two) = absurd (misleads_never n d h hints v two.0 two.1 one.1)
by_agree (Ok d) n h hints es fs v w A B next (inr one) (inr two) =
    (one.0 ∙ sym two.0, misleads_agree n d h hints v w one.1 two.1)

-- hints that fail both times have the same events and the same fault
hints_agree : (c : StreamParams) (is_dropped : ℕ → Bool) (n : List ℤ) (hints : List ℕ) (es fs q r : History) (v w : Fault)
    → FailsHints c is_dropped n hints es v → FailsHints c is_dropped n hints fs w → NeverFork (es ++ q) (fs ++ r) → SameFault es v fs w
hints_agree c is_dropped n [] es fs q r v w a b never = (a.0 ∙ sym b.0, a.1 ∙ sym b.1)
hints_agree c is_dropped n (h ∷ hints) es fs q r v w a b never =
    let same = after_looks c is_dropped h es a.0 a.1 fs b.0 b.1 q r a.3 b.3 a.2 b.2 a.4 b.4 never in
    let later = by_agree a.3 n h hints a.1 b.1 v w (λ m. FailsHints c is_dropped m hints a.1 v) (λ m. FailsHints c is_dropped m hints b.1 w)
    (λ m k l. hints_agree c is_dropped m hints a.1 b.1 q r v w k l same.following) a.5
    (subst (λ x. FailsBy x n h hints b.1 w (λ m. FailsHints c is_dropped m hints b.1 w)) (sym same.answer) b.5) in
    (a.2 ∙ ap (λ e. e ++ a.1) same.asked ∙ ap (λ e. b.0 ++ e) later.0 ∙ sym b.2, later.1)

-- Additions

-- if an addition is good in one judgement, it isn't bad in the other
good_agrees : (c : StreamParams) (st : StreamContext) (id : ℕ) (lits : List ℤ) (hints : List ℕ) (es fs q r : History) (deleted : ℕ)
    (fault : Fault)
    → JudgesAddition c st id lits hints es Good → JudgesAddition c st id lits hints fs (Bad deleted fault) → NeverFork (es ++ q) (fs ++ r)
    → ⊥
good_agrees c st id lits hints es fs q r deleted fault a b never =
    never_both c st.is_dropped (distinct lits) hints a.1.clauses a.0 fs _ r fault a.1.named a.1.shown.1
    (valid_passes c st a.0 id lits hints fs fault _ a.1 b.1)
    (subst (λ e. NeverFork e (fs ++ r)) (ap (λ e. e ++ q) a.2 ∙ append_assoc a.0 (published_by c id lits ∷ []) q) never)

addition_agrees : (c : StreamParams) (st : StreamContext) (id : ℕ) (lits : List ℤ) (hints : List ℕ) (es fs q r : History)
    (v w : LineVerdict)
    → JudgesAddition c st id lits hints es v → JudgesAddition c st id lits hints fs w → NeverFork (es ++ q) (fs ++ r) → Agree es v fs w
addition_agrees c st id lits hints es fs q r Good Good a b never =
    let last = published_by c id lits ∷ [] in
    let following = rw (ap (λ e. e ++ r) b.2 ∙ append_assoc b.0 last r, ap (λ e. e ++ q) a.2 ∙ append_assoc a.0 last q) at never in
    let same = found_agree c st.is_dropped hints a.1.clauses b.1.clauses a.0 b.0 (last ++ q) (last ++ r) a.1.named b.1.named following in
    record { events = a.2 ∙ ap (λ e. e ++ last) same ∙ sym b.2; verdict = refl }
addition_agrees c st id lits hints es fs q r Good (Bad deleted fault) a b never =
    absurd (good_agrees c st id lits hints es fs q r deleted fault a b never)
addition_agrees c st id lits hints es fs q r (Bad deleted fault) Good a b never =
    absurd (good_agrees c st id lits hints fs es r q deleted fault b a (never_fork_turned (es ++ q) (fs ++ r) never))
addition_agrees c st id lits hints es fs q r (Bad m v) (Bad n w) a b never =
    both_bad m n v w es fs a.0 b.0 (violates_agree _ _ es fs v w _ _ (λ a b. violates_agree _ _ es fs v w _ _
    (λ a b. violates_agree _ _ es fs v w _ _ (λ a b. violates_agree _ _ es fs v w _ _
    (λ a b. hints_agree c st.is_dropped (distinct lits) hints es fs q r v w a b never) a b) a b) a b) a.1 b.1)

drops_agree : (is_dropped : ℕ → Bool) (earlier : List ℕ) (id : ℕ) (es fs : History) (v w : LineVerdict) (A B : History → Type 0)
    → (A es → B fs → Agree es v fs w) → DropsThen is_dropped earlier id es v A → DropsThen is_dropped earlier id fs w B → Agree es v fs w
drops_agree is_dropped earlier id es fs v w A B next a b = elim a [
  | inl one ↦ elim b [
    | inl two ↦ fails_agree (length earlier) (faults.NotLive id) es fs v w one.1 two.1
    | inr two ↦ absurd (let d = one.0 in let e = two.0 in cc)
  ]
  | inr one ↦ elim b [ inl two ↦ absurd (let d = one.0 in let e = two.0 in cc) | inr two ↦ next one.1 two.1 ]
]

retires_agree : (c : StreamParams) (earlier : List ℕ) (id : ℕ) (es fs q r : History) (v w : LineVerdict) (A B : History → Type 0)
    → ((rest left : History) → NeverFork (rest ++ q) (left ++ r) → A rest → B left → Agree rest v left w)
    → RetiresThen c earlier id es v A → RetiresThen c earlier id fs w B → NeverFork (es ++ q) (fs ++ r) → Agree es v fs w
retires_agree c earlier id es fs q r v w A B next a b never =
    let done = events.retire c.stream id retiring.Done in
    let refused = events.retire c.stream id retiring.NotLive in
    elim a.decided [
      | inl one ↦ elim b.decided [
        | inl two ↦
            let here = rw (two.0, one.0) at never in
            let later = next a.rest b.rest (here.1 refl) one.1 two.1 in
            record { events = one.0 ∙ ap (λ e. done ∷ e) later.events ∙ sym two.0; verdict = later.verdict }
        | inr two ↦
            let here = rw (two.0, one.0) at never in
            absurd (let e = here.0 (refl, refl) in cc)
      ]
      | inr one ↦ elim b.decided [
        | inl two ↦
            let here = rw (two.0, one.0) at never in
            absurd (let e = here.0 (refl, refl) in cc)
        | inr two ↦ record { events = one.0 ∙ ap (λ e. refused ∷ e) (one.1.0 ∙ sym two.1.0) ∙ sym two.0; verdict = one.1.1 ∙ sym two.1.1 }
      ]
    ]

at_agree : (ownership : Ownership) (c : StreamParams) (is_dropped : ℕ → Bool) (earlier : List ℕ) (id : ℕ) (es fs q r : History)
    (v w : LineVerdict)
    (A B : History → Type 0)
    → ((rest left : History) → NeverFork (rest ++ q) (left ++ r) → A rest → B left → Agree rest v left w)
    → DeletesAt ownership c is_dropped earlier id es v A → DeletesAt ownership c is_dropped earlier id fs w B
    → NeverFork (es ++ q) (fs ++ r)
    → Agree es v fs w
at_agree ownerships.Own c is_dropped earlier id es fs q r v w A B next a b never = retires_agree c earlier id es fs q r v w A B next a b
    never
at_agree ownerships.Outside c is_dropped earlier id es fs q r v w A B next a b never =
    fails_agree (length earlier) (faults.NotLive id) es fs v w a b
at_agree _ c is_dropped earlier id es fs q r v w A B next a b never =
    drops_agree is_dropped earlier id es fs v w A B (next es fs never) a b

identities_agree : (c : StreamParams) (is_dropped : ℕ → Bool) (earlier ids : List ℕ) (es fs q r : History) (v w : LineVerdict)
    → JudgesDeletion c is_dropped earlier ids es v → JudgesDeletion c is_dropped earlier ids fs w → NeverFork (es ++ q) (fs ++ r)
    → Agree es v fs w
identities_agree c is_dropped earlier [] es fs q r v w a b never = record { events = a.0 ∙ sym b.0; verdict = a.1 ∙ sym b.1 }
identities_agree c is_dropped earlier (id ∷ ids) es fs q r v w a b never =
    at_agree (ownership_of c id) c is_dropped earlier id es fs q r v w
    (λ rest. JudgesDeletion c is_dropped (earlier ++ id ∷ []) ids rest v)
    (λ rest. JudgesDeletion c is_dropped (earlier ++ id ∷ []) ids rest w)
    (λ rest left following one two. identities_agree c is_dropped (earlier ++ id ∷ []) ids rest left q r v w one two following)
    a b never

-- Imports

-- if an import is good in one judgement, it isn't bad in the other
import_good : (c : StreamParams) (st : StreamContext) (id : ℕ) (lits : List ℤ) (es fs q r : History) (deleted : ℕ) (fault : Fault)
    → JudgesImport c st id lits es Good → JudgesImport c st id lits fs (Bad deleted fault) → NeverFork (es ++ q) (fs ++ r) → ⊥
import_good c st id lits es fs q r deleted fault a (none, inl bad) never = bad.0 (a.identity, a.other)
import_good c st id lits es fs q r deleted fault a (none, inr (shared, inl bad)) never = bad.0 a.literals
import_good c st id lits es fs q r deleted fault a (none, inr (shared, inr (within, inl unfound))) never =
    let found = found_one c st.is_dropped id a.clause es a.named in
    let same = looks_agree c st.is_dropped id es fs q r (Ok a.clause) (Err fault) found unfound never in
    let answer = same.1 in cc
import_good c st id lits es fs q r deleted fault a (none, inr (shared, inr (within, inr differs))) never =
    let found = found_one c st.is_dropped id a.clause es a.named in
    let same = looks_agree c st.is_dropped id es fs q r (Ok a.clause) (Ok differs.0) found differs.1 never in
    let answer = same.1 in
    let clause : a.clause ≡ differs.0 = cc in
    differs.2 (subst (λ (d : Clause). (l : ℤ) → Has d l ↔ Has lits l) clause a.same)

import_agrees : (c : StreamParams) (st : StreamContext) (id : ℕ) (lits : List ℤ) (es fs q r : History) (v w : LineVerdict)
    → JudgesImport c st id lits es v → JudgesImport c st id lits fs w → NeverFork (es ++ q) (fs ++ r) → Agree es v fs w
import_agrees c st id lits es fs q r Good Good a b never =
    record {
      events = found_agree c st.is_dropped (id ∷ []) (a.clause ∷ [])
          (b.clause ∷ []) es fs q r a.named b.named never;
      verdict = refl;
    }
import_agrees c st id lits es fs q r Good (Bad deleted fault) a b never =
    absurd (import_good c st id lits es fs q r deleted fault a b never)
import_agrees c st id lits es fs q r (Bad deleted fault) Good a b never =
    absurd (import_good c st id lits fs es r q deleted fault b a (never_fork_turned (es ++ q) (fs ++ r) never))
import_agrees c st id lits es fs q r (Bad m v) (Bad n w) a b never =
    both_bad m n v w es fs a.0 b.0 (violates_agree _ _ es fs v w _ _ (λ a b. violates_agree _ _ es fs v w _ _ (λ a b. elim a [
      | inl one ↦ elim b [
        | inl two ↦
            let same = looks_agree c st.is_dropped id es fs q r (Err v) (Err w) one two never in
            let answer = same.1 in let fault : v ≡ w = cc in (same.0, fault)
        | inr two ↦ absurd (let same = looks_agree c st.is_dropped id es fs q r (Err v)
            (Ok two.0) one two.1 never in let answer = same.1 in cc)
      ]
      | inr one ↦ elim b [
        | inl two ↦ absurd (let same = looks_agree c st.is_dropped id es fs q r (Ok one.0)
            (Err w) one.1 two never in let answer = same.1 in cc)
        | inr two ↦
            ((looks_agree c st.is_dropped id es fs q r (Ok one.0) (Ok two.0) one.1 two.1 never).0, one.3 ∙ sym two.3)
      ]
    ]) a b) a.1 b.1)

-- two judgements of one line after the same lines agree, whatever events come after the line
pub line_agrees : (c : StreamParams) (st : StreamContext) (line : StreamLine) (es fs q r : History) (v w : LineVerdict)
    → JudgesLine c st line es v → JudgesLine c st line fs w → NeverFork (es ++ q) (fs ++ r) → Agree es v fs w
line_agrees c st (Addition id lits hints) es fs q r v w a b never = addition_agrees c st id lits hints es fs q r v w a b never
line_agrees c st (Deletion lead ids) es fs q r v w a b never = identities_agree c st.is_dropped [] ids es fs q r v w a b never
line_agrees c st (Import id lits) es fs q r v w a b never = import_agrees c st id lits es fs q r v w a b never
