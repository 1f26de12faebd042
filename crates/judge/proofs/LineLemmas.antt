-- The judge tests additions and imports as the relation says.
use Rattle.std.proofs.Common.{◌≡◌, ◌⊎◌, ◌≤◌, ◌<◌, ◌++◌, ℕ, ℤ, neg_ℤ, Bool, true, false, not, List, [], ◌∷◌, length, inl, inr, refl, sym}
use Rattle.std.proofs.Common.{ap, ap₂, subst, ◌∙◌, append_assoc}
use Rattle.std.specs.Prelude.{Decides, ◌==◌, ◌&&◌, ◌↔◌, nat_lt, nat_le, Some, None, Result, Ok, Err}
use Rattle.std.specs.List.{list_any}
use Rattle.std.specs.Ordering.{int_eq}
use lib.Pointwise.{pointwise, pointwise_decides}
use Rattle.std.proofs.lemmas.Bool.Decides.{Decides-int_eq, Decides-ltb, Decides-and, Decides-not}
use Rattle.lrup_model.specs.Clause.{Clause, Has, IsTautology}
use Rattle.lrup_model.specs.Distinct.{distinct}
use Rattle.lrup_model.specs.Event as events
use Rattle.lrup_model.specs.Event.{Event, History}
use Rattle.lrup_model.specs.Layout.{Owns, IsIdentity, last_identity}
use Rattle.lrup_model.specs.declared.clause_map.Published.TheVariants as publishing
use Rattle.lrup_model.specs.lemmas.DistinctLemmas.{IsTautology-distinct, IsTautology-in_distinct}
use Rattle.stream_check.specs.declared.fault.Fault.{Fault}
use Rattle.stream_check.specs.declared.fault.Fault.TheVariants as faults
use Rattle.stream_check.specs.StreamParams.{StreamParams}
use Rattle.stream_check.specs.StreamContext.{StreamContext}
use Rattle.stream_check.specs.Verdicts.{LineVerdict, Good, Bad, Violates}
use Rattle.stream_check.specs.Lookup.{LooksUp}
use Rattle.stream_check.specs.Additions.{FailsHints, published_by, JudgesAddition}
use Rattle.stream_check.specs.Imports.{JudgesImport}
use Rattle.stream_check.specs.lemmas.AdditionLemmas.{one_found, found_one}
use Rattle.judge.specs.Judge.{Given, looked_up, is_in, hinted, tested, owns, is_publish, with_publish, judged_addition, are_same}
use Rattle.judge.specs.Judge.{compared, judged_import}
use Rattle.judge.proofs.TestLemmas.{none_is, gives, given, give, bad, passed, pass, decided, Decides-le, Decides-both, Decides-owns}
use Rattle.judge.proofs.TestLemmas.{Decides-over, Decides-tautology, Decides-identity, Decides-same}
use Rattle.judge.proofs.LookUpLemmas.{Takes, look_up_judged}
use Rattle.judge.proofs.HintLemmas.{hints_judged}

-- One test

tested_good : (b : Bool) (Holds : Type 0) (its : Fault) (history : History) (next : Given LineVerdict) → Decides b Holds → Holds
    → tested b its history next ≡ next
tested_good true Holds its history next test holds = refl
tested_good false Holds its history next test holds = absurd (decided false Holds test refl holds)

tested_bad : (b : Bool) (Holds : Type 0) (its : Fault) (history : History) (next : Given LineVerdict) → Decides b Holds → (¬ Holds)
    → tested b its history next ≡ gives (Bad 0 its) history
tested_bad true Holds its history next test wrong = absurd (wrong (test.0 refl))
tested_bad false Holds its history next test wrong = refl

-- the first fault is this test's or a later one's
tested_by : (b : Bool) (Holds Next : Type 0) (its fault : Fault) (deleted : ℕ) (taken rest : History) (next : Given LineVerdict)
    → Decides b Holds → deleted ≡ 0 → (Next → next ≡ gives (Bad deleted fault) rest)
    → Violates Holds its taken fault Next → tested b its (taken ++ rest) next ≡ gives (Bad deleted fault) rest
tested_by true Holds Next its fault deleted taken rest next test zero_ goes (inl (wrong, none, is)) = absurd (wrong (test.0 refl))
tested_by true Holds Next its fault deleted taken rest next test zero_ goes (inr (holds, later)) = goes later
tested_by false Holds Next its fault deleted taken rest next test zero_ goes (inl (wrong, none, is)) =
    bad its fault deleted taken rest zero_ is none
tested_by false Holds Next its fault deleted taken rest next test zero_ goes (inr (holds, later)) =
    absurd (decided false Holds test refl holds)

tested_from : (b : Bool) (Holds : Type 0) (Next : History → Type 0) (its fault : Fault) (deleted : ℕ) (history rest : History)
    (next : Given LineVerdict)
    → Decides b Holds
    → (next ≡ gives (Bad deleted fault) rest → (deleted ≡ 0) × Takes Next history rest)
    → tested b its history next ≡ gives (Bad deleted fault) rest
    → (deleted ≡ 0) × Takes (λ taken. Violates Holds its taken fault (Next taken)) history rest
tested_from true Holds Next its fault deleted history rest next test later is =
    let more = later is in (more.0, (more.1.0, more.1.1, inr (test.0 refl, more.1.2)))
tested_from false Holds Next its fault deleted history rest next test later is =
    let same = given (Bad 0 its) (Bad deleted fault) history rest is in
    let verdict = same.0 in
    let zero_ : 0 ≡ deleted = cc in
    let fault_ : its ≡ fault = cc in
    (sym zero_, ([], same.1, inl ((λ holds. decided false Holds test refl holds), refl, sym fault_)))

tested_pass : (b : Bool) (Holds : Type 0) (its : Fault) (history rest : History) (next : Given LineVerdict) → Decides b Holds
    → tested b its history next ≡ gives Good rest → Holds × (next ≡ gives Good rest)
tested_pass true Holds its history rest next test is = (test.0 refl, is)
tested_pass false Holds its history rest next test is =
    absurd (let same = given (Bad 0 its) Good history rest is in let verdict = same.0 in cc)

-- The publish event

Decides-publish : (s t id j : ℕ) (clause other : Clause)
    → Decides ((s == t && id == j) && pointwise int_eq clause other) (((s ≡ t) × (id ≡ j)) × (clause ≡ other))
Decides-publish s t id j clause other =
    Decides-and (s == t && id == j) (pointwise int_eq clause other) (Decides-both s t id j)
    (pointwise_decides {E = int_eq} Decides-int_eq clause other)

publish_is : (s id : ℕ) (clause : Clause) (event : Event) → is_publish s id clause event ≡ true
    → event ≡ events.publish s id clause publishing.Done
publish_is s id clause (events.fetch t j reply) is = absurd (let e : false ≡ true = is in cc)
publish_is s id clause (events.publish t j other publishing.Done) is =
    let same = (Decides-publish s t id j clause other).0 is in
    ap₂ (λ x y. events.publish x y other publishing.Done) (sym same.0.0) (sym same.0.1)
    ∙ ap (λ d. events.publish s id d publishing.Done) (sym same.1)
publish_is s id clause (events.publish t j other publishing.Taken) is = absurd (let e : false ≡ true = is in cc)
publish_is s id clause (events.retire t j reply) is = absurd (let e : false ≡ true = is in cc)

good_published : (g : Given LineVerdict) (s id : ℕ) (clause : Clause) (rest : History) → with_publish g s id clause ≡ gives Good rest
    → g ≡ gives Good (events.publish s id clause publishing.Done ∷ rest)
good_published None s id clause rest is = none_is (Good, rest) is
good_published (Some (Bad deleted fault, history)) s id clause rest is =
    absurd (let same = given (Bad deleted fault) Good history rest is in let verdict = same.0 in cc)
good_published (Some (Good, [])) s id clause rest is = none_is (Good, rest) is
good_published (Some (Good, event ∷ history)) s id clause rest is =
    let test = passed (is_publish s id clause event) (gives Good history) (Good, rest) is in
    let same = given Good Good history rest test.1 in
    give Good Good (event ∷ history) (events.publish s id clause publishing.Done ∷ rest) refl
    (ap₂ (λ (e : Event) (h : History). e ∷ h) (publish_is s id clause event test.0) same.1)

bad_published : (g : Given LineVerdict) (s id : ℕ) (clause : Clause) (deleted : ℕ) (fault : Fault) (rest : History)
    → with_publish g s id clause ≡ gives (Bad deleted fault) rest → g ≡ gives (Bad deleted fault) rest
bad_published None s id clause deleted fault rest is = none_is (Bad deleted fault, rest) is
bad_published (Some (Bad count its, history)) s id clause deleted fault rest is = is
bad_published (Some (Good, [])) s id clause deleted fault rest is = none_is (Bad deleted fault, rest) is
bad_published (Some (Good, event ∷ history)) s id clause deleted fault rest is =
    let test = passed (is_publish s id clause event) (gives Good history) (Bad deleted fault, rest) is in
    absurd (let same = given Good (Bad deleted fault) history rest test.1 in let verdict = same.0 in cc)

module _ (c : StreamParams) (st : StreamContext) where
  -- Additions

  own_test : (id : ℕ) → Decides (owns c.layout c.stream id && nat_lt st.last id) (Owns c.layout c.stream id × (st.last < id))
  own_test id = Decides-and (owns c.layout c.stream id) (nat_lt st.last id) (Decides-owns c.layout c.stream id) (Decides-ltb st.last id)

  plain_test : (lits : List ℤ) → Decides (not (list_any (λ literal. is_in lits (neg_ℤ literal)) lits)) (¬ IsTautology lits)
  plain_test lits = Decides-not (list_any (λ literal. is_in lits (neg_ℤ literal)) lits) (Decides-tautology lits)

  room_test : (lits : List ℤ) → Decides (nat_le (length (distinct lits)) st.free) (length (distinct lits) ≤ st.free)
  room_test lits = Decides-le (length (distinct lits)) st.free

  -- the hints, and the publish event
  abbrev Ends : ℕ → List ℤ → List ℕ → History → Given LineVerdict
  Ends id lits hints history = with_publish (hinted c st.is_dropped false (distinct lits) hints history) c.stream id (distinct lits)

  good_ends : (id : ℕ) (lits : List ℤ) (hints : List ℕ) (taken rest : History) → JudgesAddition c st id lits hints taken Good
      → Ends id lits hints (taken ++ rest) ≡ gives Good rest
  good_ends id lits hints taken rest (looked, valid, is) =
      let event = published_by c id lits in
      ap (λ g. with_publish g c.stream id (distinct lits))
      ((hints_judged c st.is_dropped (distinct lits) hints (taken ++ rest) (event ∷ rest) Good).1
      (looked, ap (λ h. h ++ rest) is ∙ append_assoc looked (event ∷ []) rest, (valid.clauses, valid.named, valid.shown.1)))
      ∙ pass (is_publish c.stream id (distinct lits) event) (gives Good rest)
      ((Decides-publish c.stream c.stream id id (distinct lits) (distinct lits)).1 ((refl, refl), refl))

  addition_good : (id : ℕ) (lits : List ℤ) (hints : List ℕ) (taken rest : History) → JudgesAddition c st id lits hints taken Good
      → judged_addition c st id lits hints (taken ++ rest) ≡ gives Good rest
  addition_good id lits hints taken rest (looked, valid, is) =
      tested_good _ _ faults.Identity (taken ++ rest) _ (own_test id) (valid.owns, valid.above)
      ∙ tested_good _ _ faults.Literal (taken ++ rest) _ (Decides-over c.layout.vars lits) valid.literals
      ∙ tested_good _ _ faults.Tautology (taken ++ rest) _ (plain_test lits) (λ t. valid.shown.0 (IsTautology-in_distinct lits t))
      ∙ tested_good _ _ faults.NoRoom (taken ++ rest) _ (room_test lits) valid.room
      ∙ good_ends id lits hints taken rest (looked, valid, is)

  addition_bad : (id : ℕ) (lits : List ℤ) (hints : List ℕ) (taken rest : History) (deleted : ℕ) (fault : Fault)
      → JudgesAddition c st id lits hints taken (Bad deleted fault)
      → judged_addition c st id lits hints (taken ++ rest) ≡ gives (Bad deleted fault) rest
  addition_bad id lits hints taken rest deleted fault (zero_, before) =
      tested_by _ _ _ faults.Identity fault deleted taken rest _ (own_test id) zero_
      (λ a. tested_by _ _ _ faults.Literal fault deleted taken rest _ (Decides-over c.layout.vars lits) zero_
      (λ b. tested_by _ _ _ faults.Tautology fault deleted taken rest _ (plain_test lits) zero_
      (λ d. tested_by _ _ _ faults.NoRoom fault deleted taken rest _ (room_test lits) zero_
      (λ fails. ap (λ g. with_publish g c.stream id (distinct lits))
      ((hints_judged c st.is_dropped (distinct lits) hints (taken ++ rest) rest (Bad deleted fault)).1 (taken, refl, (zero_, fails))))
      d) b) a) before

  addition_from_good : (id : ℕ) (lits : List ℤ) (hints : List ℕ) (history rest : History)
      → judged_addition c st id lits hints history ≡ gives Good rest
      → Takes (λ taken. JudgesAddition c st id lits hints taken Good) history rest
  addition_from_good id lits hints history rest is =
      let event = published_by c id lits in
      let one = tested_pass _ _ faults.Identity history rest _ (own_test id) is in
      let two = tested_pass _ _ faults.Literal history rest _ (Decides-over c.layout.vars lits) one.1 in
      let three = tested_pass _ _ faults.Tautology history rest _ (plain_test lits) two.1 in
      let four = tested_pass _ _ faults.NoRoom history rest _ (room_test lits) three.1 in
      let ends = good_published (hinted c st.is_dropped false (distinct lits) hints history) c.stream id (distinct lits) rest four.1 in
      let shown = (hints_judged c st.is_dropped (distinct lits) hints history (event ∷ rest) Good).0 ends in (
        shown.0 ++ event ∷ [],
        shown.1 ∙ sym (append_assoc shown.0 (event ∷ []) rest),
        (
          shown.0,
          record {
            owns = one.0.0;
            above = one.0.1;
            literals = two.0;
            room = four.0;
            clauses = shown.2.0;
            named = shown.2.1;
            shown = ((λ t. three.0 (IsTautology-distinct lits t)), shown.2.2);
          },
          refl,
        ),
      )

  addition_from_bad : (id : ℕ) (lits : List ℤ) (hints : List ℕ) (history rest : History) (deleted : ℕ) (fault : Fault)
      → judged_addition c st id lits hints history ≡ gives (Bad deleted fault) rest
      → Takes (λ taken. JudgesAddition c st id lits hints taken (Bad deleted fault)) history rest
  addition_from_bad id lits hints history rest deleted fault is =
      let all = tested_from _ _ _ faults.Identity fault deleted history rest _ (own_test id)
      (tested_from _ _ _ faults.Literal fault deleted history rest _ (Decides-over c.layout.vars lits)
      (tested_from _ _ _ faults.Tautology fault deleted history rest _ (plain_test lits)
      (tested_from _ _ (λ taken. FailsHints c st.is_dropped (distinct lits) hints taken fault) faults.NoRoom fault deleted history rest _
      (room_test lits)
      (λ ends. let shown = (hints_judged c st.is_dropped (distinct lits) hints history rest (Bad deleted fault)).0
      (bad_published (hinted c st.is_dropped false (distinct lits) hints history) c.stream id (distinct lits) deleted fault rest ends) in
      (shown.2.0, (shown.0, shown.1, shown.2.1)))))) is in
      (all.1.0, all.1.1, (all.0, all.1.2))

  -- Imports

  other_test : (id : ℕ)
      → Decides ((nat_lt 0 id && nat_le id (last_identity c.layout)) && not (owns c.layout c.stream id))
      (IsIdentity c.layout id × (¬ Owns c.layout c.stream id))
  other_test id =
      Decides-and (nat_lt 0 id && nat_le id (last_identity c.layout)) (not (owns c.layout c.stream id))
      (Decides-identity c.layout id) (Decides-not (owns c.layout c.stream id) (Decides-owns c.layout c.stream id))

  import_good : (id : ℕ) (lits : List ℤ) (taken rest : History) → JudgesImport c st id lits taken Good
      → judged_import c st id lits (taken ++ rest) ≡ gives Good rest
  import_good id lits taken rest valid =
      tested_good _ _ faults.Identity (taken ++ rest) _ (other_test id) (valid.identity, valid.other)
      ∙ tested_good _ _ faults.Literal (taken ++ rest) _ (Decides-over c.layout.vars lits) valid.literals
      ∙ ap (compared id lits) ((look_up_judged c st.is_dropped id (taken ++ rest) rest (Ok valid.clause)).1
      (taken, refl, found_one c st.is_dropped id valid.clause taken valid.named))
      ∙ tested_good _ _ (faults.Differs id) rest (gives Good rest) (Decides-same valid.clause lits) valid.same

  import_bad : (id : ℕ) (lits : List ℤ) (taken rest : History) (deleted : ℕ) (fault : Fault)
      → JudgesImport c st id lits taken (Bad deleted fault)
      → judged_import c st id lits (taken ++ rest) ≡ gives (Bad deleted fault) rest
  import_bad id lits taken rest deleted fault (zero_, before) =
      tested_by _ _ _ faults.Identity fault deleted taken rest _ (other_test id) zero_
      (λ a. tested_by _ _ _ faults.Literal fault deleted taken rest _ (Decides-over c.layout.vars lits) zero_
      (λ b. elim b [
        | inl unfound ↦ ap (compared id lits)
            ((look_up_judged c st.is_dropped id (taken ++ rest) rest (Err fault)).1 (taken, refl, unfound))
            ∙ bad fault fault deleted [] rest zero_ refl refl
        | inr differs ↦ ap (compared id lits)
            ((look_up_judged c st.is_dropped id (taken ++ rest) rest (Ok differs.0)).1 (taken, refl, differs.1))
            ∙ tested_bad _ _ (faults.Differs id) rest (gives Good rest) (Decides-same differs.0 lits) differs.2
            ∙ bad (faults.Differs id) fault deleted [] rest zero_ differs.3 refl
      ]) a) before

  good_compared : (g : Given (Result Clause Fault)) (id : ℕ) (lits : List ℤ) (rest : History) → compared id lits g ≡ gives Good rest
      → (clause : Clause) × (g ≡ gives (Ok clause) rest) × ((l : ℤ) → Has clause l ↔ Has lits l)
  good_compared None id lits rest is = none_is (Good, rest) is
  good_compared (Some (Err its, history)) id lits rest is =
      absurd (let same = given (Bad 0 its) Good history rest is in let verdict = same.0 in cc)
  good_compared (Some (Ok clause, history)) id lits rest is =
      let test = tested_pass _ _ (faults.Differs id) history rest (gives Good history) (Decides-same clause lits) is in
      let same = given Good Good history rest test.1 in
      (clause, give (Ok clause) (Ok clause) history rest refl same.1, test.0)

  import_from_good : (id : ℕ) (lits : List ℤ) (history rest : History) → judged_import c st id lits history ≡ gives Good rest
      → Takes (λ taken. JudgesImport c st id lits taken Good) history rest
  import_from_good id lits history rest is =
      let one = tested_pass _ _ faults.Identity history rest _ (other_test id) is in
      let two = tested_pass _ _ faults.Literal history rest _ (Decides-over c.layout.vars lits) one.1 in
      let same = good_compared (looked_up c st.is_dropped id history) id lits rest two.1 in
      let looks = (look_up_judged c st.is_dropped id history rest (Ok same.0)).0 same.1 in (
        looks.0,
        looks.1,
        record {
          identity = one.0.0;
          other = one.0.1;
          literals = two.0;
          clause = same.0;
          named = one_found c st.is_dropped id same.0 looks.0 looks.2;
          same = same.2;
        },
      )

  -- the events are taken by the look-up, and the fault is the look-up's, or the literals differ
  abbrev Differs : ℕ → List ℤ → Fault → History → Type 0
  Differs id lits fault taken =
      LooksUp c st.is_dropped id taken (Err fault)
      ⊎ ((clause : Clause) × LooksUp c st.is_dropped id taken (Ok clause)
      × (¬ ((l : ℤ) → Has clause l ↔ Has lits l)) × (fault ≡ faults.Differs id))

  test_differs : (b : Bool) (id : ℕ) (lits : List ℤ) (clause : Clause) (history rest : History) (deleted : ℕ) (fault : Fault)
      → Decides b ((l : ℤ) → Has clause l ↔ Has lits l)
      → tested b (faults.Differs id) history (gives Good history) ≡ gives (Bad deleted fault) rest
      → (deleted ≡ 0) × (history ≡ rest) × (¬ ((l : ℤ) → Has clause l ↔ Has lits l)) × (fault ≡ faults.Differs id)
  test_differs true id lits clause history rest deleted fault test is =
      absurd (let same = given Good (Bad deleted fault) history rest is in let verdict = same.0 in cc)
  test_differs false id lits clause history rest deleted fault test is =
      let same = given (Bad 0 (faults.Differs id)) (Bad deleted fault) history rest is in
      let verdict = same.0 in
      let zero_ : 0 ≡ deleted = cc in
      let fault_ : faults.Differs id ≡ fault = cc in
      (sym zero_, same.1, (λ holds. decided false _ test refl holds), sym fault_)

  bad_compared : (g : Given (Result Clause Fault)) (id : ℕ) (lits : List ℤ) (history rest : History) (deleted : ℕ) (fault : Fault)
      → looked_up c st.is_dropped id history ≡ g → compared id lits g ≡ gives (Bad deleted fault) rest
      → (deleted ≡ 0) × Takes (Differs id lits fault) history rest
  bad_compared None id lits history rest deleted fault found is = none_is (Bad deleted fault, rest) is
  bad_compared (Some (Err its, left)) id lits history rest deleted fault found is =
      let same = given (Bad 0 its) (Bad deleted fault) left rest is in
      let verdict = same.0 in
      let zero_ : 0 ≡ deleted = cc in
      let fault_ : its ≡ fault = cc in
      let looks = (look_up_judged c st.is_dropped id history left (Err its)).0 found in (
        sym zero_,
        (
          looks.0,
          looks.1 ∙ ap (λ h. looks.0 ++ h) same.1,
          inl (subst (λ (f : Fault). LooksUp c st.is_dropped id looks.0 (Err f)) fault_ looks.2),
        ),
      )
  bad_compared (Some (Ok clause, left)) id lits history rest deleted fault found is =
      let differs = test_differs (are_same clause lits) id lits clause left rest deleted fault (Decides-same clause lits) is in
      let looks = (look_up_judged c st.is_dropped id history left (Ok clause)).0 found in
      (differs.0, (looks.0, looks.1 ∙ ap (λ h. looks.0 ++ h) differs.1, inr (clause, looks.2, differs.2, differs.3)))

  import_from_bad : (id : ℕ) (lits : List ℤ) (history rest : History) (deleted : ℕ) (fault : Fault)
      → judged_import c st id lits history ≡ gives (Bad deleted fault) rest
      → Takes (λ taken. JudgesImport c st id lits taken (Bad deleted fault)) history rest
  import_from_bad id lits history rest deleted fault is =
      let all = tested_from _ _ _ faults.Identity fault deleted history rest _ (other_test id)
      (tested_from _ _ (Differs id lits fault) faults.Literal fault deleted history rest _ (Decides-over c.layout.vars lits)
      (bad_compared (looked_up c st.is_dropped id history) id lits history rest deleted fault refl)) is in
      (all.1.0, all.1.1, (all.0, all.1.2))

  -- Both

  pub addition_by : (id : ℕ) (lits : List ℤ) (hints : List ℕ) (taken rest : History) (verdict : LineVerdict)
      → JudgesAddition c st id lits hints taken verdict → judged_addition c st id lits hints (taken ++ rest) ≡ gives verdict rest
  addition_by id lits hints taken rest Good by = addition_good id lits hints taken rest by
  addition_by id lits hints taken rest (Bad deleted fault) by = addition_bad id lits hints taken rest deleted fault by

  pub addition_from : (id : ℕ) (lits : List ℤ) (hints : List ℕ) (history rest : History) (verdict : LineVerdict)
      → judged_addition c st id lits hints history ≡ gives verdict rest
      → Takes (λ taken. JudgesAddition c st id lits hints taken verdict) history rest
  addition_from id lits hints history rest Good is = addition_from_good id lits hints history rest is
  addition_from id lits hints history rest (Bad deleted fault) is = addition_from_bad id lits hints history rest deleted fault is

  pub import_by : (id : ℕ) (lits : List ℤ) (taken rest : History) (verdict : LineVerdict) → JudgesImport c st id lits taken verdict
      → judged_import c st id lits (taken ++ rest) ≡ gives verdict rest
  import_by id lits taken rest Good by = import_good id lits taken rest by
  import_by id lits taken rest (Bad deleted fault) by = import_bad id lits taken rest deleted fault by

  pub import_from : (id : ℕ) (lits : List ℤ) (history rest : History) (verdict : LineVerdict)
      → judged_import c st id lits history ≡ gives verdict rest
      → Takes (λ taken. JudgesImport c st id lits taken verdict) history rest
  import_from id lits history rest Good is = import_from_good id lits history rest is
  import_from id lits history rest (Bad deleted fault) is = import_from_bad id lits history rest deleted fault is
