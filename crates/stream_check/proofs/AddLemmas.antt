-- An addition that is checked and published.
use Rattle.std.proofs.Common.{◌≡◌, ◌≤◌, ◌<◌, ℕ, ℤ, nat_abs, Bool, true, false, cond, List, [], ◌∷◌, length, Ok, refl, ap, ◌∙◌, inr, arith}
use Rattle.std.specs.Prelude.{◌==◌}
use Rattle.std.specs.List.{AllByRecursion, sum_by}
use Rattle.lrup_model.specs.Literal.{IsLiteral}
use Rattle.lrup_model.specs.Clause.{Clause}
use Rattle.lrup_model.specs.Formula.{Cnf}
use Rattle.lrup_model.specs.Layout.{Owns}
use Rattle.lrup_model.specs.Event as events
use Rattle.lrup_model.specs.Event.{Event, History, own, published, spent, stream_of}
use Rattle.lrup_model.specs.State.{State, absent}
use Rattle.lrup_model.specs.History.{IsPublishable, max_line_literals}
use Rattle.lrup_model.specs.CallerView.{Caller, CallerView, CallerStep, IsVacantAbove}
use Rattle.lrup_model.specs.declared.clause_map.Published.{Published}
use Rattle.lrup_model.specs.declared.clause_map.Published.TheVariants as publishing
use Rattle.lrup_model.specs.Distinct.{distinct}
use Rattle.lrup_model.specs.lemmas.DistinctLemmas.{IsTautology-in_distinct, length-distinct}
use Rattle.lrup_model.specs.lemmas.EntailmentLemmas.{propagation_sound}
use Rattle.propagate.specs.Marks.{Propagation}
use Rattle.stream_check.specs.declared.fault.Fault.{Fault}
use Rattle.stream_check.specs.StreamParams.{StreamParams}
use Rattle.stream_check.specs.StreamContext.{StreamContext}
use Rattle.stream_check.specs.lemmas.AdditionLemmas.{run-fetches, before_maps}
use Rattle.stream_check.specs.Lookup.{AreFound}
use Rattle.stream_check.specs.Additions.{IsValidAddition, BeforeHints, published_by}
use Rattle.stream_check.specs.Checker.{IsViewOf}
use Rattle.stream_check.specs.internal.Checking.{IsFetch, KeepsClause, Shows}
use Rattle.stream_check.specs.internal.CheckerInside.{Admits}

-- Fetches take no room and change nothing

pub spent-skips : (e : Event) (es : History) (b : Bool) → published (e ∷ es) ≡ published es
    → sum_by (λ p. length p.1) (published (cond b (e ∷ es) es)) ≡ sum_by (λ p. length p.1) (published es)
spent-skips e es true h = ap (sum_by (λ p. length p.1)) h
spent-skips e es false h = refl

pub spent-fetches : (s : ℕ) (es : History) → AllByRecursion IsFetch es → spent s es ≡ 0
spent-fetches s [] h = refl
spent-fetches s (events.fetch t id r ∷ es) h = spent-skips (events.fetch t id r) (own es s) (stream_of (events.fetch t id r) == s) refl
    ∙ spent-fetches s es h.1
spent-fetches s (events.publish t id c r ∷ es) h = absurd h.0
spent-fetches s (events.retire t id r ∷ es) h = absurd h.0

pub room_stays : (p q : CallerView) (es : History) → CallerStep p q es → AllByRecursion IsFetch es → q.room ≡ p.room
room_stays p q es step quiet = omega (arith, step.room, spent-fetches p.caller.stream es quiet)

-- in a view of the stream, an identity that the stream owns is also the caller's own
pub owns_at : (c : StreamParams) (p : CallerView) (id : ℕ) → IsViewOf c p → Owns c.layout c.stream id
    → Owns p.caller.layout p.caller.stream id
owns_at c p id at owns = rw (at.layout, at.stream) owns

-- in a view of the stream, an identity that the caller owns is also the stream's own
pub owned_by : (c : StreamParams) (p : CallerView) (id : ℕ) → IsViewOf c p → Owns p.caller.layout p.caller.stream id
    → Owns c.layout c.stream id
owned_by c p id at owns = rw (at.stream, at.layout) at owns

-- after a step the view is still the stream's
pub still_at : (c : StreamParams) (p q : CallerView) (es : History) → IsViewOf c p → CallerStep p q es → IsViewOf c q
still_at c p q es at step = record {
  layout = ap (λ (r : Caller). r.layout) step.caller ∙ at.layout;
  stream = ap (λ (r : Caller). r.stream) step.caller ∙ at.stream;
}

-- The literals of a line, none of which is 0

pub variables_within : (vars : ℕ) (ls : List ℤ) → AllByRecursion (IsLiteral vars) ls → AllByRecursion (λ l. nat_abs l ≤ vars) ls
variables_within vars [] all = tt
variables_within vars (l ∷ ls) all = (all.0.1, variables_within vars ls all.1)

-- The conditions of the publish

-- after the hints, the clause of the marks is the addition's clause
pub clause_is : (c : StreamParams) (st : StreamContext) (id : ℕ) (lits : List ℤ) (old new : Propagation) (clause : Clause)
    → Admits c st id lits old
    → KeepsClause old new → clause ≡ new.clause → clause ≡ distinct lits
clause_is c st id lits old new clause admits kept is = is ∙ kept.1 ∙ ap (λ (m : Propagation). m.clause) admits.marks_are

-- the hints derive the addition's clause
pub shown_is : (c : StreamParams) (st : StreamContext) (is_dropped : ℕ → Bool) (f : Cnf) (id : ℕ) (lits : List ℤ) (hints : List ℕ)
    (marks : Propagation)
    (es : History) → Admits c st id lits marks
    → Shows c is_dropped f marks.falses hints es (Ok tt) → Shows c is_dropped f (distinct lits) hints es (Ok tt)
shown_is c st is_dropped f id lits hints marks es admits shown = rw (ap (λ (m : Propagation). m.falses) admits.marks_are) at shown

pub publishable : (c : StreamParams) (p q : CallerView) (st : StreamContext) (is_dropped : ℕ → Bool) (es : History) (id : ℕ) (lits : List ℤ)
    (hints : List ℕ)
    (marks : Propagation) → CallerStep p q es
    → Admits c st id lits marks → length lits ≤ max_line_literals → Shows c is_dropped p.caller.formula (distinct lits) hints es (Ok tt)
    → IsPublishable q.caller.formula (distinct lits)
publishable c p q st is_dropped es id lits hints marks step admits few shown = rw (ap (λ (r : Caller). r.formula) step.caller) (record {
  clause = rw shown.3 admits.clause;
  length = omega (arith, length-distinct lits);
  follows = propagation_sound p.caller.formula (distinct lits) shown.0 shown.1 shown.2;
})

pub still_vacant : (c : StreamParams) (p q : CallerView) (es : History) (last id : ℕ) → IsViewOf c p → CallerStep p q es
    → AllByRecursion IsFetch es
    → IsVacantAbove p last → Owns c.layout c.stream id → last < id → q.own id ≡ absent
still_vacant c p q es last id at step quiet vacant owns newer =
    let mine = owns_at c p id at owns in
    step.own id mine ∙ ap (λ (m : State). m id) (run-fetches p.own es quiet) ∙ vacant id mine newer

-- a publish of the addition's clause, with the reply Done, is the addition's publish event
pub published_is : (c : StreamParams) (p q : CallerView) (es : History) (id : ℕ) (clause : Clause) (lits : List ℤ) (r : Published)
    → IsViewOf c p
    → CallerStep p q es → clause ≡ distinct lits → r ≡ publishing.Done
    → ◌≡◌ {A = History} (events.publish q.caller.stream id clause r ∷ []) (published_by c id lits ∷ [])
published_is c p q es id clause lits r at step is done =
    ap (λ (s : ℕ). events.publish s id clause r ∷ []) (ap (λ (x : Caller). x.stream) step.caller ∙ at.stream)
    ∙ ap (λ (d : Clause). events.publish c.stream id d r ∷ []) is
    ∙ ap (λ (x : Published). events.publish c.stream id (distinct lits) x ∷ []) done

-- The result of the addition

-- if a condition that is tested before the hints is violated, the hints don't matter
pub fails_before : (c : StreamParams) (st : StreamContext) (id : ℕ) (lits : List ℤ) (fault : Fault) (A : Type 0)
    → BeforeHints c st id lits [] fault ⊥
    → BeforeHints c st id lits [] fault A
fails_before c st id lits fault A fails = before_maps c st id lits [] [] fault ⊥ A (λ e. e) (λ no. absurd no) fails

-- if no condition tested before the hints is violated, the hints decide
pub fails_after : (c : StreamParams) (st : StreamContext) (id : ℕ) (lits : List ℤ) (es : History) (fault : Fault) (A : Type 0)
    (marks : Propagation)
    → Admits c st id lits marks → A → BeforeHints c st id lits es fault A
fails_after c st id lits es fault A marks admits next =
    inr (
      (admits.owns, admits.above),
      inr (
        admits.literals,
        inr (
          (λ t. admits.consistent (IsTautology-in_distinct lits t)),
          inr (admits.fits, next),
        ),
      ),
    )

-- an addition that passes the tests, and whose hints derive its clause, is valid
pub valid_is : (c : StreamParams) (st : StreamContext) (f : Cnf) (id : ℕ) (lits : List ℤ) (hints : List ℕ) (es : History)
    (marks : Propagation)
    → Admits c st id lits marks → Shows c st.is_dropped f (distinct lits) hints es (Ok tt)
    → IsValidAddition c.layout c.stream st.last st.free (λ ids clauses. AreFound c st.is_dropped ids clauses es) id lits hints
valid_is c st f id lits hints es marks admits shown = record {
  owns = admits.owns;
  above = admits.above;
  literals = admits.literals;
  room = admits.fits;
  clauses = shown.0;
  named = shown.4;
  shown = shown.2;
}
