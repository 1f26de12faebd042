-- Lemmas about the look-up of one identity, and about hints, one after the other.
use Rattle.std.proofs.Common.{◌≡◌, ◌+◌, ◌∙◌, ℕ, ℤ, neg_ℤ, Bool, List, [], ◌∷◌, ◌++◌, length, Ok, Err, inl, inr, refl}
use Rattle.std.proofs.Common.{sym, ap, subst, arith, append_assoc, append-nil}
use Rattle.std.specs.Prelude.{replicate}
use Rattle.std.specs.List.{AllByRecursion}
use Rattle.std.proofs.lemmas.List.{replicate-append-replicate}
use Rattle.lrup_model.specs.Clause.{Clause, IsTautology}
use Rattle.lrup_model.specs.Formula.{Cnf}
use Rattle.lrup_model.specs.Entailment.{IsDerived}
use Rattle.lrup_model.specs.Layout.{LayoutValue}
use Rattle.lrup_model.specs.Event.{Event, History}
use Rattle.lrup_model.specs.CallerView.{Caller, CallerView, CallerStep, ClipValue, IsKnown, AllFollow, clip_clause}
use Rattle.lrup_model.specs.lemmas.PassLemmas.{known_follows}
use Rattle.lrup_model.specs.Propagation.{IsConflict, IsUnit}
use Rattle.propagate.specs.Hints.{Leads}
use Rattle.propagate.specs.lemmas.HintLemmas.{leads_on, accepts_exactly}
use Rattle.stream_check.specs.declared.fault.Fault.{Fault}
use Rattle.stream_check.specs.declared.fault.Fault.TheVariants as faults
use Rattle.stream_check.specs.StreamParams.{StreamParams}
use Rattle.stream_check.specs.Lookup.{LooksUp, AreFound}
use Rattle.stream_check.specs.Additions.{Misleads, FailsHints}
use Rattle.stream_check.specs.Checker.{IsViewOf}
use Rattle.stream_check.specs.internal.Checking.{Shows, excess_of}

-- k copies and one more at the end are k + 1 copies
pub replicate-more : (k : ℕ) (e : Event) → replicate k e ++ e ∷ [] ≡ replicate (k + 1) e
replicate-more k e = replicate-append-replicate k 1 e

-- the clause of a clip that is known in the later view follows from the earlier view's formula
pub derived_before : (p q : CallerView) (es : History) (clip : ClipValue) → CallerStep p q es → IsKnown q clip → AllFollow q
    → IsDerived p.caller.formula (clip_clause q clip)
derived_before p q es clip step known follow = rw (ap (λ (r : Caller). r.formula) step.caller) at (known_follows q clip follow known)

-- in the earlier view, too, the formula's variables are those of the stream's layout
pub variables_before : (c : StreamParams) (p q : CallerView) (es : History) → IsViewOf c p → CallerStep p q es
    → q.caller.formula.vars ≡ q.caller.layout.vars → p.caller.formula.vars ≡ c.layout.vars
variables_before c p q es at step there = subst (λ (r : Caller). r.formula.vars ≡ r.layout.vars) step.caller there
    ∙ ap (λ (l : LayoutValue). l.vars) at.layout

-- Hints one after the other

pub all_derived : (f : Cnf) (cs : List Clause) (d : Clause) → AllByRecursion (IsDerived f) cs → IsDerived f d
    → AllByRecursion (IsDerived f) (cs ++ d ∷ [])
all_derived f [] d h k = (k, tt)
all_derived f (c ∷ cs) d h k = (h.0, all_derived f cs d h.1 k)

-- The hints so far have these clauses, which follow from the formula, and are unit one after the
-- other; and the result of the remaining hints gives the result of all.
pub record HasLed (c : StreamParams) (is_dropped : ℕ → Bool) (f : Cnf) (n : List ℤ) (hints : List ℕ) (m : List ℤ) (left : List ℕ)
    (es : History) : Type 0 where
  pub clauses : List Clause
  pub derived : AllByRecursion (IsDerived f) clauses
  pub leads : Leads n clauses m
  pub found : (ds : List Clause) (rest : History) → AreFound c is_dropped left ds rest
      → AreFound c is_dropped hints (clauses ++ ds) (es ++ rest)
  pub fails : (rest : History) (fault : Fault) → FailsHints c is_dropped m left rest fault
      → FailsHints c is_dropped n hints (es ++ rest) fault

module _ (c : StreamParams) (is_dropped : ℕ → Bool) (f : Cnf) (n m : List ℤ) (hints : List ℕ) (h : ℕ) (left rest : List ℕ) (es fs : History)
    (is : left ≡ h ∷ rest) (before : HasLed c is_dropped f n hints m left es) where
  -- if the next hint fails, so do all hints together
  next_fails : (fault : Fault) → FailsHints c is_dropped m (h ∷ rest) fs fault → FailsHints c is_dropped n hints (es ++ fs) fault
  next_fails fault fails = before.fails fs fault (subst (λ (hs : List ℕ). FailsHints c is_dropped m hs fs fault) (sym is) fails)

  pub shows_unfound : (fault : Fault) → LooksUp c is_dropped h fs (Err fault) → Shows c is_dropped f n hints (es ++ fs) (Err fault)
  shows_unfound fault looks =
      next_fails fault (fs, [], sym (append-nil fs), Err fault, looks, (refl, refl))

  module _ (d : Clause) (looks : LooksUp c is_dropped h fs (Ok d)) where
    -- the next hint's clause is found
    next_found : (ds : List Clause) (more : History) → AreFound c is_dropped rest ds more
        → AreFound c is_dropped hints ((before.clauses ++ d ∷ []) ++ ds) ((es ++ fs) ++ more)
    next_found ds more found =
        subst (λ (x : History). AreFound c is_dropped hints ((before.clauses ++ d ∷ []) ++ ds) x) (sym (append_assoc es fs more))
        (subst (λ (x : List Clause). AreFound c is_dropped hints x (es ++ (fs ++ more))) (sym (append_assoc before.clauses (d ∷ []) ds))
        (before.found (d ∷ ds) (fs ++ more) (subst (λ (hs : List ℕ). AreFound c is_dropped hs (d ∷ ds) (fs ++ more)) (sym is)
        (fs, more, refl, looks, found))))

    pub goes_on : (l : ℤ) → IsDerived f d → IsUnit m d l → HasLed c is_dropped f n hints (m ++ neg_ℤ l ∷ []) rest (es ++ fs)
    goes_on l derived unit = record {
      clauses = before.clauses ++ d ∷ [];
      derived = all_derived f before.clauses d before.derived derived;
      leads = leads_on n m before.clauses d l before.leads unit;
      found = next_found;
      fails = λ more fault fails. subst (λ (x : History). FailsHints c is_dropped n hints x fault) (sym (append_assoc es fs more))
          (before.fails (fs ++ more) fault (subst (λ (hs : List ℕ). FailsHints c is_dropped m hs (fs ++ more) fault) (sym is)
          (fs, more, refl, Ok d, looks, inl (l, unit, fails))));
    }

    -- the next hint's clause doesn't help
    misled : (fault : Fault) → Misleads m d h rest fault → FailsHints c is_dropped n hints (es ++ fs) fault
    misled fault misleads = next_fails fault (fs, [], sym (append-nil fs), Ok d, looks, inr (refl, misleads))

    pub shows_not_unit : ¬ IsConflict m d → ((l : ℤ) → ¬ IsUnit m d l) → Shows c is_dropped f n hints (es ++ fs) (Err (faults.NotUnit h))
    shows_not_unit conflict unit = misled (faults.NotUnit h) (inl (conflict, unit, refl))

    pub shows_conflict : ¬ IsTautology n → IsDerived f d → f.vars ≡ c.layout.vars → IsConflict m d
        → Shows c is_dropped f n hints (es ++ fs) (excess_of rest)
    shows_conflict consistent derived variables conflict =
        elim rest as (λ (hs : List ℕ). hs ≡ rest → Shows c is_dropped f n hints (es ++ fs) (excess_of hs)) [
          | [] ↦ λ none. (
            before.clauses ++ d ∷ [],
            all_derived f before.clauses d before.derived derived,
            (accepts_exactly n before.clauses d).1 (consistent, (m, before.leads, conflict)),
            variables,
            subst (AreFound c is_dropped hints (before.clauses ++ d ∷ [])) (append-nil (es ++ fs))
                (subst (λ (x : List Clause). AreFound c is_dropped hints x ((es ++ fs) ++ [])) (append-nil (before.clauses ++ d ∷ []))
                (next_found [] [] (subst (λ (hs : List ℕ). AreFound c is_dropped hs [] []) none refl))),
          )
          | (i ∷ more) ↦ λ some. misled (faults.Excess i) (inr (conflict, i, more, sym some, refl))
        ] refl

-- if no hint is left, there is no conflict
pub shows_none : (c : StreamParams) (is_dropped : ℕ
    → Bool) (f : Cnf) (n : List ℤ) (hints : List ℕ) (m : List ℤ) (left : List ℕ) (es : History)
    → length left ≡ 0 → HasLed c is_dropped f n hints m left es → Shows c is_dropped f n hints es (Err faults.NoConflict)
shows_none c is_dropped f n hints m [] es none before = rw (append-nil es) at (before.fails [] faults.NoConflict (refl, refl))
shows_none c is_dropped f n hints m (h ∷ left) es none before = absurd (omega (arith, none))
