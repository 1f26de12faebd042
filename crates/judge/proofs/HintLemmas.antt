-- The judge takes an addition's hints as the relation says.
use Rattle.std.proofs.Common.{◌≡◌, ◌⊎◌, ◌++◌, ℕ, ℤ, neg_ℤ, Bool, true, false, not, List, [], ◌∷◌, inl, inr, refl, sym, ap, subst, ◌∙◌}
use Rattle.std.proofs.Common.{append_assoc}
use Rattle.std.specs.Prelude.{Decides, ◌&&◌, if◌then◌else◌, Some, None, Result, Ok, Err}
use Rattle.std.specs.List.{AllByRecursion, list_all, filter}
use Rattle.std.specs.Ordering.{int_eq}
use Rattle.std.proofs.lemmas.Bool.Decides.{Decides-int_eq, Decides-and, Decides-not}
use Rattle.lrup_model.specs.Clause.{Clause, Has}
use Rattle.lrup_model.specs.Event.{History}
use Rattle.lrup_model.specs.Propagation.{IsConflict, IsUnit, Refutes}
use Rattle.lrup_model.specs.lemmas.ClauseLemmas.{All-Has, All-from_Has, Has_cases}
use Rattle.propagate.specs.lemmas.HintLemmas.{unit_is_unique, unit_is_no_conflict}
use Rattle.stream_check.specs.declared.fault.Fault.{Fault}
use Rattle.stream_check.specs.declared.fault.Fault.TheVariants as faults
use Rattle.stream_check.specs.StreamParams.{StreamParams}
use Rattle.stream_check.specs.Verdicts.{LineVerdict, Good, Bad}
use Rattle.stream_check.specs.Lookup.{LooksUp, AreFound}
use Rattle.stream_check.specs.Additions.{FailsHints}
use Rattle.judge.specs.Judge.{Given, looked_up, is_in, Help, Conflict, UnitWith, Neither, help_of, help, helped, hinted_by, hinted}
use Rattle.judge.specs.Laws.{JudgesHints, HintsJudged}
use Rattle.judge.proofs.TestLemmas.{bad, none_is, gives, given, give, decided, Decides-in, Decides-all, filter_has, has_filter}
use Rattle.judge.proofs.LookUpLemmas.{Takes, look_up_judged}

-- What a clause does

-- what the judge says of a clause is so
Says : List ℤ → Clause → Help → Type 0
Says falses clause Conflict = IsConflict falses clause
Says falses clause (UnitWith literal) = IsUnit falses clause literal
Says falses clause Neither = (¬ IsConflict falses clause) × ((literal : ℤ) → ¬ IsUnit falses clause literal)

-- a list of the clause's literals that aren't false
record AreLeft (falses : List ℤ) (clause : Clause) (left : List ℤ) : Type 0 where
  here : (l : ℤ) → Has left l → Has clause l × (¬ Has falses l)
  all : (l : ℤ) → Has clause l → Has falses l ⊎ Has left l

unit_of : (falses : List ℤ) (clause : Clause) (literal : ℤ) (others : List ℤ) → AreLeft falses clause (literal ∷ others)
    → AllByRecursion (λ o. o ≡ literal) others → (¬ Has falses (neg_ℤ literal)) → IsUnit falses clause literal
unit_of falses clause literal others left same open_ =
    let first = left.here literal (inl refl) in
    record {
      here = first.0;
      not_false = first.1;
      not_true = open_;
      others = λ o h. elim (left.all o h) [
        | inl false_ ↦ inr false_
        | inr there ↦ elim there [ inl is ↦ inl (sym is) | inr later ↦ inl (All-Has (λ k. k ≡ literal) others o same later) ]
      ];
    }

-- if the clause is unit, each literal that is left is its one literal
one_left : (falses : List ℤ) (clause : Clause) (left : List ℤ) (k : ℤ) → AreLeft falses clause left → IsUnit falses clause k
    → (l : ℤ) → Has left l → l ≡ k
one_left falses clause left k are unit l h =
    let it = are.here l h in
    elim (unit.others l it.0) [ inl same ↦ same | inr false_ ↦ absurd (it.1 false_) ]

-- what the judge says if a literal is left, by its test
says_by : (falses : List ℤ) (clause : Clause) (literal : ℤ) (others : List ℤ) (b : Bool) → AreLeft falses clause (literal ∷ others)
    → Decides b (AllByRecursion (λ o. o ≡ literal) others × (¬ Has falses (neg_ℤ literal)))
    → Says falses clause (if b then UnitWith literal else Neither)
unfolding Says
says_by falses clause literal others true left test =
    let two = test.0 refl in unit_of falses clause literal others left two.0 two.1
says_by falses clause literal others false left test = (
  (λ conflict. let first = left.here literal (inl refl) in first.1 (conflict literal first.0)),
  (λ k unit.
      let one = one_left falses clause (literal ∷ others) k left unit in
      let first : literal ≡ k = one literal (inl refl) in
      decided false (AllByRecursion (λ o. o ≡ literal) others × (¬ Has falses (neg_ℤ literal))) test refl (
        All-from_Has (λ o. o ≡ literal) others (λ o h. one o (inr h) ∙ sym first),
        subst (λ (l : ℤ). ¬ Has falses (neg_ℤ l)) (sym first) unit.not_true,
      )),
)

says_of : (falses : List ℤ) (clause : Clause) (left : List ℤ) → AreLeft falses clause left → Says falses clause (help_of falses left)
unfolding Says
says_of falses clause [] left = λ l h. elim (left.all l h) [ inl false_ ↦ false_ | inr none ↦ absurd none ]
says_of falses clause (literal ∷ others) left =
    says_by falses clause literal others (list_all (λ o. int_eq o literal) others && not (is_in falses (neg_ℤ literal))) left
    (Decides-and (list_all (λ o. int_eq o literal) others) (not (is_in falses (neg_ℤ literal)))
    (Decides-all (λ o. int_eq o literal) (λ o. o ≡ literal) (λ o. Decides-int_eq o literal) others)
    (Decides-not (is_in falses (neg_ℤ literal)) (Decides-in falses (neg_ℤ literal))))

says : (falses : List ℤ) (clause : Clause) → Says falses clause (help falses clause)
says falses clause = says_of falses clause (filter (λ l. not (is_in falses l)) clause) (record {
  here = λ l h.
      let it = filter_has (λ l. not (is_in falses l)) clause l h in
      (it.0, (Decides-not (is_in falses l) (Decides-in falses l)).0 it.1);
  all = λ l h. elim (Has_cases falses l) [
    | inl false_ ↦ inl false_
    | inr open_ ↦ inr (has_filter (λ l. not (is_in falses l)) clause l h ((Decides-not (is_in falses l) (Decides-in falses l)).1 open_))
  ];
})

-- only one of the three is so
only : (falses : List ℤ) (clause : Clause) (h k : Help) → Says falses clause h → Says falses clause k → h ≡ k
unfolding Says
only falses clause Conflict Conflict a b = refl
only falses clause Conflict (UnitWith l) a b = absurd (unit_is_no_conflict falses clause l b a)
only falses clause Conflict Neither a b = absurd (b.0 a)
only falses clause (UnitWith l) Conflict a b = absurd (unit_is_no_conflict falses clause l a b)
only falses clause (UnitWith l) (UnitWith k) a b = ap UnitWith (unit_is_unique falses clause l k a b)
only falses clause (UnitWith l) Neither a b = absurd (b.1 l a)
only falses clause Neither Conflict a b = absurd (a.0 b)
only falses clause Neither (UnitWith k) a b = absurd (a.1 k b)
only falses clause Neither Neither a b = refl

help_is : (falses : List ℤ) (clause : Clause) (h : Help) → Says falses clause h → help falses clause ≡ h
help_is falses clause h is = only falses clause (help falses clause) h (says falses clause) is

-- Hints

module _ (c : StreamParams) (is_dropped : ℕ → Bool) where
  -- the look-up of the first hint, with the events after it
  first_is : (hint : ℕ) (taken asked more rest : History) (answer : Result Clause Fault) → taken ≡ asked ++ more
      → LooksUp c is_dropped hint asked answer
      → looked_up c is_dropped hint (taken ++ rest) ≡ Some (answer, more ++ rest)
  first_is hint taken asked more rest answer is looks =
      (look_up_judged c is_dropped hint (taken ++ rest) (more ++ rest) answer).1
      (asked, ap (λ h. h ++ rest) is ∙ append_assoc asked more rest, looks)

  -- the hints from the first one on, once it is looked up
  goes_on : (hint : ℕ) (hints : List ℕ) (falses : List ℤ) (taken asked more rest : History) (answer : Result Clause Fault)
      → taken ≡ asked ++ more → LooksUp c is_dropped hint asked answer
      → hinted c is_dropped false falses (hint ∷ hints) (taken ++ rest)
      ≡ hinted_by (gives answer (more ++ rest)) falses hint (λ is_over more_falses left. hinted c is_dropped is_over more_falses hints left)
  goes_on hint hints falses taken asked more rest answer is looks =
      ap (λ g. hinted_by g falses hint (λ is_over more_falses left. hinted c is_dropped is_over more_falses hints left))
      (first_is hint taken asked more rest answer is looks)

  helps_on : (hint : ℕ) (hints : List ℕ) (falses : List ℤ) (clause : Clause) (h : Help) (history : History) → Says falses clause h
      → helped (help falses clause) falses hint history (λ is_over more_falses left. hinted c is_dropped is_over more_falses hints left)
      ≡ helped h falses hint history (λ is_over more_falses left. hinted c is_dropped is_over more_falses hints left)
  helps_on hint hints falses clause h history is =
      ap (λ x. helped x falses hint history (λ is_over more_falses left. hinted c is_dropped is_over more_falses hints left))
      (help_is falses clause h is)

  good_by : (falses : List ℤ) (hints : List ℕ) (clauses : List Clause) (taken rest : History)
      → AreFound c is_dropped hints clauses taken → Refutes falses clauses
      → hinted c is_dropped false falses hints (taken ++ rest) ≡ Some (Good, rest)
  unfolding Says
  good_by falses [] [] taken rest found refutes = absurd refutes
  good_by falses [] (clause ∷ clauses) taken rest found refutes = absurd found
  good_by falses (hint ∷ hints) [] taken rest found refutes = absurd found
  good_by falses (hint ∷ []) (clause ∷ []) taken rest (asked, more, is, looks, none) refutes =
      goes_on hint [] falses taken asked more rest (Ok clause) is looks
      ∙ helps_on hint [] falses clause Conflict (more ++ rest) refutes
      ∙ give Good Good (more ++ rest) rest refl (ap (λ h. h ++ rest) none)
  good_by falses (hint ∷ next ∷ hints) (clause ∷ []) taken rest (asked, more, is, looks, none) refutes = absurd none
  good_by falses (hint ∷ hints) (clause ∷ other ∷ clauses) taken rest (asked, more, is, looks, found) (literal, unit, refutes) =
      goes_on hint hints falses taken asked more rest (Ok clause) is looks
      ∙ helps_on hint hints falses clause (UnitWith literal) (more ++ rest) unit
      ∙ good_by (falses ++ neg_ℤ literal ∷ []) hints (other ∷ clauses) more rest found refutes

  fails_by : (falses : List ℤ) (hints : List ℕ) (taken rest : History) (deleted : ℕ) (fault : Fault) → deleted ≡ 0
      → FailsHints c is_dropped falses hints taken fault
      → hinted c is_dropped false falses hints (taken ++ rest) ≡ Some (Bad deleted fault, rest)
  unfolding Says
  fails_by falses [] taken rest deleted fault zero_ fails = bad faults.NoConflict fault deleted taken rest zero_ fails.1 fails.0
  fails_by falses (hint ∷ hints) taken rest deleted fault zero_ (asked, more, is, Err its, looks, fails) =
      goes_on hint hints falses taken asked more rest (Err its) is looks ∙ bad its fault deleted more rest zero_ fails.1 fails.0
  fails_by falses (hint ∷ hints) taken rest deleted fault zero_ (asked, more, is, Ok clause, looks, inl (literal, unit, fails)) =
      goes_on hint hints falses taken asked more rest (Ok clause) is looks
      ∙ helps_on hint hints falses clause (UnitWith literal) (more ++ rest) unit
      ∙ fails_by (falses ++ neg_ℤ literal ∷ []) hints more rest deleted fault zero_ fails
  fails_by falses (hint ∷ hints) taken rest deleted fault zero_ (asked, more, is, Ok clause, looks, inr (none, inl neither)) =
      goes_on hint hints falses taken asked more rest (Ok clause) is looks
      ∙ helps_on hint hints falses clause Neither (more ++ rest) (neither.0, neither.1)
      ∙ bad (faults.NotUnit hint) fault deleted more rest zero_ neither.2 none
  fails_by falses (hint ∷ []) taken rest deleted fault zero_ (asked, more, is, Ok clause, looks, inr (none, inr excess)) =
      absurd (let e = excess.3 in cc)
  fails_by falses (hint ∷ next ∷ hints) taken rest deleted fault zero_ (asked, more, is, Ok clause, looks, inr (none, inr excess)) =
      let later = excess.3 in
      let same : next ≡ excess.1 = cc in
      goes_on hint (next ∷ hints) falses taken asked more rest (Ok clause) is looks
      ∙ helps_on hint (next ∷ hints) falses clause Conflict (more ++ rest) excess.0
      ∙ bad (faults.Excess next) fault deleted more rest zero_ (excess.4 ∙ ap faults.Excess (sym same)) none

  hints_by : (falses : List ℤ) (hints : List ℕ) (taken rest : History) (verdict : LineVerdict)
      → JudgesHints c is_dropped falses hints taken verdict
      → hinted c is_dropped false falses hints (taken ++ rest) ≡ Some (verdict, rest)
  hints_by falses hints taken rest Good by = good_by falses hints by.0 taken rest by.1 by.2
  hints_by falses hints taken rest (Bad deleted fault) by = fails_by falses hints taken rest deleted fault by.0 by.1

  -- The other direction

  -- the verdict for the first hint and the later ones, if the later ones have this verdict
  more_by : (falses : List ℤ) (hint : ℕ) (hints : List ℕ) (asked more : History) (clause : Clause) (literal : ℤ) (verdict : LineVerdict)
      → LooksUp c is_dropped hint asked (Ok clause) → IsUnit falses clause literal
      → JudgesHints c is_dropped (falses ++ neg_ℤ literal ∷ []) hints more verdict
      → JudgesHints c is_dropped falses (hint ∷ hints) (asked ++ more) verdict
  more_by falses hint hints asked more clause literal Good looks unit ([], found, refutes) = absurd refutes
  more_by falses hint hints asked more clause literal Good looks unit (other ∷ clauses, found, refutes) =
      (clause ∷ other ∷ clauses, (asked, more, refl, looks, found), (literal, unit, refutes))
  more_by falses hint hints asked more clause literal (Bad deleted fault) looks unit (zero_, fails) =
      (zero_, (asked, more, refl, Ok clause, looks, inl (literal, unit, fails)))

  -- the part of the events that the first hint and the later ones take
  after_first : (Is : History → Type 0) (asked left rest : History) (history : History) → history ≡ asked ++ left
      → ((taken : History) × (left ≡ taken ++ rest) × Is (asked ++ taken)) → Takes Is history rest
  after_first Is asked left rest history is later =
      (asked ++ later.0, is ∙ ap (λ h. asked ++ h) later.1 ∙ sym (append_assoc asked later.0 rest), later.2)

  -- a fault right after the look-up
  bad_after : (falses : List ℤ) (hint : ℕ) (hints : List ℕ) (asked left rest : History) (its : Fault) (verdict : LineVerdict)
      → gives (Bad 0 its) left ≡ gives verdict rest
      → ((fault : Fault) → fault ≡ its → FailsHints c is_dropped falses (hint ∷ hints) (asked ++ []) fault)
      → (taken : History) × (left ≡ taken ++ rest) × JudgesHints c is_dropped falses (hint ∷ hints) (asked ++ taken) verdict
  bad_after falses hint hints asked left rest its verdict is fails =
      let same = given (Bad 0 its) verdict left rest is in
      ([], same.1, subst (JudgesHints c is_dropped falses (hint ∷ hints) (asked ++ [])) same.0 (refl, fails its refl))

  -- the later hints, from some events on, that leave these events
  abbrev Later : List ℕ → List ℤ → LineVerdict → History → Type 0
  Later hints falses verdict rest = (left : History) → hinted c is_dropped false falses hints left ≡ gives verdict rest
      → Takes (λ taken. JudgesHints c is_dropped falses hints taken verdict) left rest

  over : (falses : List ℤ) (hint : ℕ) (later : List ℕ) (clause : Clause) (asked left rest : History) (verdict : LineVerdict)
      → LooksUp c is_dropped hint asked (Ok clause) → IsConflict falses clause
      → hinted c is_dropped true falses later left ≡ gives verdict rest
      → (taken : History) × (left ≡ taken ++ rest) × JudgesHints c is_dropped falses (hint ∷ later) (asked ++ taken) verdict
  over falses hint [] clause asked left rest verdict looks conflict is =
      let same = given Good verdict left rest is in (
        [],
        same.1,
        subst (JudgesHints c is_dropped falses (hint ∷ []) (asked ++ [])) same.0
            (clause ∷ [], (asked, [], refl, looks, refl), conflict),
      )
  over falses hint (next ∷ later) clause asked left rest verdict looks conflict is =
      bad_after falses hint (next ∷ later) asked left rest (faults.Excess next) verdict is
      (λ fault same. (asked, [], refl, Ok clause, looks, inr (refl, inr (conflict, next, later, refl, same))))

  after : (falses : List ℤ) (hint : ℕ) (hints : List ℕ) (clause : Clause) (asked left rest : History) (verdict : LineVerdict) (h : Help)
      → ((literal : ℤ) → Later hints (falses ++ neg_ℤ literal ∷ []) verdict rest)
      → LooksUp c is_dropped hint asked (Ok clause) → Says falses clause h
      → helped h falses hint left (λ is_over more_falses rest. hinted c is_dropped is_over more_falses hints rest) ≡ gives verdict rest
      → (taken : History) × (left ≡ taken ++ rest) × JudgesHints c is_dropped falses (hint ∷ hints) (asked ++ taken) verdict
  unfolding Says
  after falses hint hints clause asked left rest verdict Conflict later looks conflict is =
      over falses hint hints clause asked left rest verdict looks conflict is
  after falses hint hints clause asked left rest verdict (UnitWith literal) later looks unit is =
      let more = later literal left is in
      (more.0, more.1, more_by falses hint hints asked more.0 clause literal verdict looks unit more.2)
  after falses hint hints clause asked left rest verdict Neither later looks neither is =
      bad_after falses hint hints asked left rest (faults.NotUnit hint) verdict is
      (λ fault same. (asked, [], refl, Ok clause, looks, inr (refl, inl (neither.0, neither.1, same))))

  from_first : (falses : List ℤ) (hint : ℕ) (hints : List ℕ) (history rest : History) (verdict : LineVerdict)
      (g : Given (Result Clause Fault)) → ((literal : ℤ) → Later hints (falses ++ neg_ℤ literal ∷ []) verdict rest)
      → looked_up c is_dropped hint history ≡ g
      → hinted_by g falses hint (λ is_over more_falses rest. hinted c is_dropped is_over more_falses hints rest) ≡ gives verdict rest
      → Takes (λ taken. JudgesHints c is_dropped falses (hint ∷ hints) taken verdict) history rest
  from_first falses hint hints history rest verdict None later found is = none_is (verdict, rest) is
  from_first falses hint hints history rest verdict (Some (Err its, left)) later found is =
      let looks = (look_up_judged c is_dropped hint history left (Err its)).0 found in
      after_first (λ taken. JudgesHints c is_dropped falses (hint ∷ hints) taken verdict) looks.0 left rest history looks.1
      (bad_after falses hint hints looks.0 left rest its verdict is
      (λ fault same. (looks.0, [], refl, Err its, looks.2, (refl, same))))
  from_first falses hint hints history rest verdict (Some (Ok clause, left)) later found is =
      let looks = (look_up_judged c is_dropped hint history left (Ok clause)).0 found in
      after_first (λ taken. JudgesHints c is_dropped falses (hint ∷ hints) taken verdict) looks.0 left rest history looks.1
      (after falses hint hints clause looks.0 left rest verdict (help falses clause) later looks.2 (says falses clause) is)

  hints_from : (falses : List ℤ) (hints : List ℕ) (rest : History) (verdict : LineVerdict) → Later hints falses verdict rest
  hints_from falses [] rest verdict history is =
      let same = given (Bad 0 faults.NoConflict) verdict history rest is in
      ([], same.1, subst (JudgesHints c is_dropped falses [] []) same.0 (refl, (refl, refl)))
  hints_from falses (hint ∷ hints) rest verdict history is =
      from_first falses hint hints history rest verdict (looked_up c is_dropped hint history)
      (λ literal. hints_from (falses ++ neg_ℤ literal ∷ []) hints rest verdict) refl is

pub hints_judged : HintsJudged
hints_judged c is_dropped falses hints history rest verdict = (
  hints_from c is_dropped falses hints rest verdict history,
  λ by. ap (hinted c is_dropped false falses hints) by.1 ∙ hints_by c is_dropped falses hints by.0 rest verdict by.2,
)
