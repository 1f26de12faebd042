-- A line whose events are replaced by others, or that is judged under another cube, gets the same
-- verdict.
use Rattle.std.proofs.Common.{◌≡◌, ◌∙◌, ℕ, ℤ, neg_ℤ, Bool, List, [], ◌∷◌, ◌++◌, Result, Ok, Err, inl, inr, refl, sym, ap, subst}
use Rattle.std.proofs.Common.{append_assoc, append-nil}
use Rattle.lrup_model.specs.Clause.{Clause}
use Rattle.lrup_model.specs.Cube.{CubeValue}
use Rattle.lrup_model.specs.Distinct.{distinct}
use Rattle.lrup_model.specs.Event as events
use Rattle.lrup_model.specs.Event.{History}
use Rattle.lrup_model.specs.declared.clause_map.Retired.{Retired}
use Rattle.lrup_model.specs.declared.clause_map.Retired.TheVariants as retiring
use Rattle.lrup_text.specs.Lines.{StreamLine, Addition, Deletion, Import}
use Rattle.stream_check.specs.declared.fault.Fault.{Fault}
use Rattle.stream_check.specs.declared.params.Ownership.{Ownership}
use Rattle.stream_check.specs.declared.params.Ownership.TheVariants as ownerships
use Rattle.stream_check.specs.StreamParams.{StreamParams, ownership_of}
use Rattle.stream_check.specs.StreamContext.{StreamContext}
use Rattle.stream_check.specs.Verdicts.{LineVerdict, Good, Bad}
use Rattle.stream_check.specs.Lookup.{answer_of, LooksUp, AreFound}
use Rattle.stream_check.specs.Additions.{FailsBy, FailsHints, published_by, JudgesAddition}
use Rattle.stream_check.specs.lemmas.AdditionLemmas.{violates_maps, before_maps, one_found, found_one}
use Rattle.stream_check.specs.Deletions.{RetiresThen, DropsThen, DeletesAt, JudgesDeletion}
use Rattle.stream_check.specs.Imports.{JudgesImport}
use Rattle.stream_check.specs.Judging.{JudgesLine}

-- these parameters with another cube
abbrev pub under : StreamParams → CubeValue → StreamParams
under c cube = record c { cube = cube }

-- `f` replaces the events of a look-up and those after it, and the new look-up has the same result
pub record LooksOn (c : StreamParams) (f : History → History) (is_dropped : ℕ → Bool) (h : ℕ)
    (asked rest : History) (answer : Result Clause Fault) : Type 0 where
  pub fewer : History
  pub events : f (asked ++ rest) ≡ fewer ++ f rest
  pub looks : LooksUp c is_dropped h fewer answer

module _ (c : StreamParams) (cube : CubeValue) (f : History → History) (none : f [] ≡ [])
    (published : (id : ℕ) (lits : List ℤ)
    → f (published_by c id lits ∷ []) ≡ published_by c id lits ∷ [])
    (retired : (id : ℕ) (r : Retired) (rest : History)
    → f (events.retire c.stream id r ∷ rest) ≡ events.retire c.stream id r ∷ f rest)
    (looked : (is_dropped : ℕ → Bool) (h : ℕ) (asked rest : History) (answer : Result Clause Fault)
    → LooksUp c is_dropped h asked answer → (answer ≡ answer_of h events.vacant → rest ≡ [])
    → LooksOn (under c cube) f is_dropped h asked rest answer) where
  nothing : (es : History) → es ≡ [] → f es ≡ []
  nothing es e = ap f e ∙ none

  looks_last : (is_dropped : ℕ → Bool) (h : ℕ) (es : History) (answer : Result Clause Fault)
      → LooksUp c is_dropped h es answer → LooksUp (under c cube) is_dropped h (f es) answer
  looks_last is_dropped h es answer looks =
      let r = looked is_dropped h es [] answer looks (λ vacant. refl) in
      let is = ap f (sym (append-nil es)) ∙ r.events ∙ ap (λ a. r.fewer ++ a) none in
      subst (λ (x : History). LooksUp (under c cube) is_dropped h x answer)
      (sym (is ∙ append-nil r.fewer)) r.looks

  found_maps : (is_dropped : ℕ → Bool) (hints : List ℕ) (ds : List Clause) (es rest : History)
      → AreFound c is_dropped hints ds es → (fewer : History) × (f (es ++ rest) ≡ fewer ++ f rest)
      × AreFound (under c cube) is_dropped hints ds fewer
  found_maps is_dropped [] [] es rest found = ([], ap (λ a. f (a ++ rest)) found, refl)
  found_maps is_dropped [] (d ∷ ds) es rest found = absurd found
  found_maps is_dropped (h ∷ hints) [] es rest found = absurd found
  found_maps is_dropped (h ∷ hints) (d ∷ ds) es rest found =
      let later = found_maps is_dropped hints ds found.1 rest found.4 in
      let r = looked is_dropped h found.0 (found.1 ++ rest) (Ok d) found.3
      (λ vacant. absurd (cc)) in
      let is = ap (λ a. f (a ++ rest)) found.2 ∙ ap f (append_assoc found.0 found.1 rest)
      ∙ r.events ∙ ap (λ a. r.fewer ++ a) later.1 in (
        r.fewer ++ later.0,
        is ∙ sym (append_assoc r.fewer later.0 (f rest)),
        (r.fewer, later.0, refl, r.looks, later.2),
      )

  by_maps : (answer : Result Clause Fault) (n : List ℤ) (h : ℕ) (hints : List ℕ) (es : History)
      (fault : Fault) (A B : List ℤ → Type 0) → ((m : List ℤ) → A m → B m)
      → FailsBy answer n h hints es fault A
      → (answer ≡ answer_of h events.vacant → es ≡ []) × FailsBy answer n h hints (f es) fault B
  by_maps (Ok d) n h hints es fault A B next (inl unit) =
      ((λ vacant. absurd (cc)), inl (unit.0, unit.1, next (n ++ neg_ℤ unit.0 ∷ []) unit.2))
  by_maps (Ok d) n h hints es fault A B next (inr misled) =
      ((λ vacant. misled.0), inr (nothing es misled.0, misled.1))
  by_maps (Err its) n h hints es fault A B next fails =
      ((λ vacant. fails.0), (nothing es fails.0, fails.1))

  hints_map : (is_dropped : ℕ → Bool) (n : List ℤ) (hints : List ℕ) (es : History) (fault : Fault)
      → FailsHints c is_dropped n hints es fault
      → FailsHints (under c cube) is_dropped n hints (f es) fault
  hints_map is_dropped n [] es fault fails = (nothing es fails.0, fails.1)
  hints_map is_dropped n (h ∷ hints) es fault fails =
      let by = by_maps fails.3 n h hints fails.1 fault
      (λ m. FailsHints c is_dropped m hints fails.1 fault)
      (λ m. FailsHints (under c cube) is_dropped m hints (f fails.1) fault)
      (λ m k. hints_map is_dropped m hints fails.1 fault k) fails.5 in
      let r = looked is_dropped h fails.0 fails.1 fails.3 fails.4 by.0 in
      (r.fewer, f fails.1, ap f fails.2 ∙ r.events, fails.3, r.looks, by.1)

  addition_maps : (st : StreamContext) (id : ℕ) (lits : List ℤ) (hints : List ℕ) (es : History)
      (v : LineVerdict) → JudgesAddition c st id lits hints es v
      → JudgesAddition (under c cube) st id lits hints (f es) v
  addition_maps st id lits hints es Good (fetches, good, is) =
      let last = published_by c id lits ∷ [] in
      let found = found_maps st.is_dropped hints good.clauses fetches last good.named in (
        found.0,
        record {
          owns = good.owns;
          above = good.above;
          literals = good.literals;
          room = good.room;
          clauses = good.clauses;
          named = found.2;
          shown = good.shown;
        },
        ap f is ∙ found.1 ∙ ap (λ a. found.0 ++ a) (published id lits),
      )
  addition_maps st id lits hints es (Bad deleted fault) bad = (
    bad.0,
    before_maps c st id lits es (f es) fault _ _ (nothing es)
        (λ a. hints_map st.is_dropped (distinct lits) hints es fault a) bad.1,
  )

  import_maps : (st : StreamContext) (id : ℕ) (lits : List ℤ) (es : History) (v : LineVerdict)
      → JudgesImport c st id lits es v → JudgesImport (under c cube) st id lits (f es) v
  import_maps st id lits es Good good = record {
    identity = good.identity;
    other = good.other;
    literals = good.literals;
    clause = good.clause;
    named = one_found (under c cube) st.is_dropped id good.clause (f es)
        (looks_last st.is_dropped id es (Ok good.clause) (found_one c st.is_dropped id good.clause es good.named));
    same = good.same;
  }
  import_maps st id lits es (Bad deleted fault) bad = (
    bad.0,
    violates_maps _ _ es (f es) fault _ _ (nothing es)
        (λ a. violates_maps _ _ es (f es) fault _ _ (nothing es) (λ a. elim a [
          | inl unfound ↦ inl (looks_last st.is_dropped id es (Err fault) unfound)
          | inr differs ↦
              let looks = looks_last st.is_dropped id es (Ok differs.0) differs.1 in
              inr (differs.0, looks, differs.2, differs.3)
        ]) a) bad.1,
  )

  drops_map : (is_dropped : ℕ → Bool) (earlier : List ℕ) (id : ℕ) (es : History) (v : LineVerdict)
      (A B : History → Type 0) → (A es → B (f es)) → DropsThen is_dropped earlier id es v A
      → DropsThen is_dropped earlier id (f es) v B
  drops_map is_dropped earlier id es v A B next (inl bad) =
      inl (bad.0, (nothing es bad.1.0, bad.1.1))
  drops_map is_dropped earlier id es v A B next (inr good) = inr (good.0, next good.1)

  retires_map : (earlier : List ℕ) (id : ℕ) (es : History) (v : LineVerdict)
      (A B : History → Type 0) → ((rest : History) → A rest → B (f rest))
      → RetiresThen c earlier id es v A → RetiresThen (under c cube) earlier id (f es) v B
  retires_map earlier id es v A B next a = elim a.decided [
    | inl good ↦ record {
      rest = f a.rest;
      decided = inl (ap f good.0 ∙ retired id retiring.Done a.rest, next a.rest good.1);
    }
    | inr bad ↦
        let is = ap f bad.0 ∙ retired id retiring.NotLive a.rest in
        record { rest = f a.rest; decided = inr (is, (nothing a.rest bad.1.0, bad.1.1)) }
  ]

  at_maps : (ownership : Ownership) (is_dropped : ℕ
      → Bool) (earlier : List ℕ) (id : ℕ) (es : History)
      (v : LineVerdict) (A B : History → Type 0) → ((rest : History) → A rest → B (f rest))
      → DeletesAt ownership c is_dropped earlier id es v A
      → DeletesAt ownership (under c cube) is_dropped earlier id (f es) v B
  at_maps ownerships.Formula is_dropped earlier id es v A B next at =
      drops_map is_dropped earlier id es v A B (next es) at
  at_maps ownerships.Own is_dropped earlier id es v A B next at = retires_map earlier id es v A B
      next at
  at_maps ownerships.Foreign is_dropped earlier id es v A B next at =
      drops_map is_dropped earlier id es v A B (next es) at
  at_maps ownerships.Outside is_dropped earlier id es v A B next at = (nothing es at.0, at.1)

  pub identities_map : (is_dropped : ℕ
      → Bool) (earlier ids : List ℕ) (es : History) (v : LineVerdict)
      → JudgesDeletion c is_dropped earlier ids es v
      → JudgesDeletion (under c cube) is_dropped earlier ids (f es) v
  identities_map is_dropped earlier [] es v judged = (nothing es judged.0, judged.1)
  identities_map is_dropped earlier (id ∷ ids) es v judged =
      at_maps (ownership_of c id) is_dropped earlier id es v
      (λ rest. JudgesDeletion c is_dropped (earlier ++ id ∷ []) ids rest v)
      (λ rest. JudgesDeletion (under c cube) is_dropped (earlier ++ id ∷ []) ids rest v)
      (λ rest k. identities_map is_dropped (earlier ++ id ∷ []) ids rest v k) judged

  pub line_maps : (st : StreamContext) (line : StreamLine) (es : History) (v : LineVerdict)
      → JudgesLine c st line es v → JudgesLine (under c cube) st line (f es) v
  line_maps st (Addition id lits hints) es v judged = addition_maps st id lits hints es v judged
  line_maps st (Deletion lead ids) es v judged = identities_map st.is_dropped [] ids es v judged
  line_maps st (Import id lits) es v judged = import_maps st id lits es v judged
