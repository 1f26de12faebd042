-- Lemmas about additions, their literals, conditions and hints; and about what fetches change.
use Rattle.std.proofs.Common.{◌≡◌, ◌≤◌, ◌++◌, ℕ, ℤ, neg_ℤ, nat_abs, Bool, false, List, [], ◌∷◌, Ok, inl, inr, refl, sym, ap, subst, ◌∙◌}
use Rattle.std.proofs.Common.{append-nil}
use Rattle.std.specs.List.{AllByRecursion}
use Rattle.lrup_model.specs.Clause.{Clause}
use Rattle.lrup_model.specs.Literal.{IsLiteral}
use Rattle.lrup_model.specs.lemmas.DistinctLemmas.{IsTautology-in_distinct}
use Rattle.lrup_model.specs.Event as events
use Rattle.lrup_model.specs.Event.{History}
use Rattle.lrup_model.specs.Propagation.{IsUnit, Refutes}
use Rattle.lrup_model.specs.State.{State, run}
use Rattle.lrup_text.specs.Lines.{IsStreamLiteral}
use Rattle.stream_check.specs.declared.fault.Fault.{Fault}
use Rattle.stream_check.specs.StreamParams.{StreamParams}
use Rattle.stream_check.specs.StreamContext.{StreamContext}
use Rattle.stream_check.specs.Verdicts.{Violates}
use Rattle.stream_check.specs.Lookup.{FetchesHint, LooksUp, AreFound}
use Rattle.stream_check.specs.Additions.{BeforeHints, IsValidAddition, Misleads}
use Rattle.stream_check.specs.internal.Checking.{IsFetch}

-- none of a line's literals is 0, so they are literals over the variables if they are in range
pub literals_within : (vars : ℕ) (ls : List ℤ) → AllByRecursion IsStreamLiteral ls
    → AllByRecursion (λ l. nat_abs l ≤ vars) ls → AllByRecursion (IsLiteral vars) ls
literals_within vars [] nonzero all = tt
literals_within vars (l ∷ ls) nonzero all = ((nonzero.0.0, all.0), literals_within vars ls nonzero.1 all.1)

-- fetches change nothing
pub run-fetches : (m : State) (es : History) → AllByRecursion IsFetch es → run m es ≡ m
run-fetches m [] h = refl
run-fetches m (events.fetch s id r ∷ es) h = run-fetches m es h.1
run-fetches m (events.publish s id c r ∷ es) h = absurd h.0
run-fetches m (events.retire s id r ∷ es) h = absurd h.0

-- if a line violates this condition or a later one, it still does with other events that are empty
-- whenever the old ones are
pub violates_maps : (Holds : Type 0) (its : Fault) (es fs : History) (fault : Fault) (A B : Type 0)
    → (es ≡ [] → fs ≡ []) → (A → B) → Violates Holds its es fault A → Violates Holds its fs fault B
violates_maps Holds its es fs fault A B none next (inl bad) = inl (bad.0, none bad.1, bad.2)
violates_maps Holds its es fs fault A B none next (inr good) = inr (good.0, next good.1)

pub before_maps : (c : StreamParams) (st : StreamContext) (id : ℕ) (lits : List ℤ) (es fs : History)
    (fault : Fault) (A B : Type 0)
    → (es ≡ [] → fs ≡ []) → (A → B) → BeforeHints c st id lits es fault A
    → BeforeHints c st id lits fs fault B
before_maps c st id lits es fs fault A B none next before =
    violates_maps _ _ es fs fault _ _ none (λ a. violates_maps _ _ es fs fault _ _ none (λ a. violates_maps _ _ es fs fault _ _ none
    (λ a. violates_maps _ _ es fs fault _ _ none next a) a) a) before

-- a valid addition violates none of the conditions tested before its hints
pub valid_passes : (c : StreamParams) (st : StreamContext) (fetches : History) (id : ℕ)
    (lits : List ℤ)
    (hints : List ℕ) (es : History) (fault : Fault) (A : Type 0)
    → IsValidAddition c.layout c.stream st.last st.free
    (λ ids clauses. AreFound c st.is_dropped ids clauses fetches) id lits hints
    → BeforeHints c st id lits es fault A → A
valid_passes c st fetches id lits hints es fault A valid (inl bad) = absurd (bad.0 (valid.owns, valid.above))
valid_passes c st fetches id lits hints es fault A valid (inr (a, inl bad)) = absurd (bad.0 valid.literals)
valid_passes c st fetches id lits hints es fault A valid (inr (a, inr (b, inl bad))) =
    absurd (bad.0 (λ t. valid.shown.0 (IsTautology-in_distinct lits t)))
valid_passes c st fetches id lits hints es fault A valid (inr (a, inr (b, inr (d, inl bad)))) = absurd (bad.0 valid.room)
valid_passes c st fetches id lits hints es fault A valid (inr (a, inr (b, inr (d, inr (e, next))))) = next

-- if a look-up gave a clause, the identity wasn't dropped, and its fetch found the clause live
pub found_live : (c : StreamParams) (is_dropped : ℕ → Bool) (h : ℕ) (es : History) (d : Clause)
    → LooksUp c is_dropped h es (Ok d) → (is_dropped h ≡ false) × FetchesHint c h es (events.live d)
found_live c is_dropped h es d (inl dropped) = absurd (let e = dropped.2 in cc)
found_live c is_dropped h es d (inr (kept, events.vacant, asks, is)) = absurd (cc)
found_live c is_dropped h es d (inr (kept, events.live e, asks, is)) =
    let same : e ≡ d = cc in (
      kept,
      subst
          (λ (x : Clause). FetchesHint c h es (events.live x)) same asks,
    )
found_live c is_dropped h es d (inr (kept, events.retired, asks, is)) = absurd (cc)

-- looking up one identity is looking up the list that has only this identity
pub one_found : (c : StreamParams) (is_dropped : ℕ → Bool) (id : ℕ) (d : Clause) (es : History)
    → LooksUp c is_dropped id es (Ok d) → AreFound c is_dropped (id ∷ []) (d ∷ []) es
one_found c is_dropped id d es looks = (es, [], sym (append-nil es), looks, refl)

pub found_one : (c : StreamParams) (is_dropped : ℕ → Bool) (id : ℕ) (d : Clause) (es : History)
    → AreFound c is_dropped (id ∷ []) (d ∷ []) es → LooksUp c is_dropped id es (Ok d)
found_one c is_dropped id d es (asked, rest, is, looks, none) =
    subst (λ (a : History). LooksUp c is_dropped id a (Ok d)) (sym (is ∙ ap (λ (a : History). asked ++ a) none ∙ append-nil asked)) looks

pub no_hints_left : (c : StreamParams) (is_dropped : ℕ → Bool) (hints : List ℕ) (es : History)
    → AreFound c is_dropped hints [] es → hints ≡ []
no_hints_left c is_dropped [] es found = refl
no_hints_left c is_dropped (h ∷ hints) es found = absurd found

-- if the clauses from a hint on refute, the hint doesn't mislead
pub no_help : (n : List ℤ) (d : Clause) (ds : List Clause) (c : StreamParams)
    (is_dropped : ℕ → Bool) (h : ℕ)
    (hints : List ℕ) (es : History) (fault : Fault)
    → Refutes n (d ∷ ds) → AreFound c is_dropped hints ds es → Misleads n d h hints fault → ⊥
no_help n d [] c is_dropped h hints es fault refutes found (inl neither) = neither.0 refutes
no_help n d [] c is_dropped h hints es fault refutes found (inr excess) =
    let none = sym (no_hints_left c is_dropped hints es found) ∙ excess.3 in cc
no_help n d (e ∷ ds) c is_dropped h hints es fault refutes found (inl neither) =
    neither.1 refutes.0 refutes.1
no_help n d (e ∷ ds) c is_dropped h hints es fault refutes found (inr excess) =
    refutes.1.not_false (excess.0 refutes.0 refutes.1.here)

-- if clauses refute and the first one is unit, the others refute once its literal is true
pub refutes_on : (n : List ℤ) (d : Clause) (ds : List Clause) (l : ℤ) → Refutes n (d ∷ ds)
    → IsUnit n d l → Refutes (n ++ neg_ℤ l ∷ []) ds
refutes_on n d [] l refutes unit = absurd (unit.not_false (refutes l unit.here))
refutes_on n d (e ∷ ds) l refutes unit = elim (refutes.1.others l unit.here) [
  | inl same ↦ subst (λ (k : ℤ). Refutes (n ++ neg_ℤ k ∷ []) (e ∷ ds)) (sym same) refutes.2
  | inr there ↦ absurd (unit.not_false there)
]
