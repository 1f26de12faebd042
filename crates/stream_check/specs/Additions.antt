-- What makes an addition valid, and how additions are judged (this project's own; the idea that
-- hinted clauses derive the clause by propagation is from Cruz-Filipe et al., CADE 2017).
use Rattle.std.specs.Prelude.{◌≡◌, ◌≤◌, ◌<◌, ◌⊎◌, ◌++◌, ℕ, ℤ, neg_ℤ, nat_abs, Bool, List, [], ◌∷◌, length, Result, Ok, Err}
use Rattle.std.specs.List.{AllByRecursion}
use Rattle.lrup_model.specs.Clause.{Clause, IsTautology}
use Rattle.lrup_model.specs.Layout.{LayoutValue, Owns}
use Rattle.lrup_model.specs.Event as events
use Rattle.lrup_model.specs.Event.{Event, History}
use Rattle.lrup_model.specs.Propagation.{Accepts, IsConflict, IsUnit}
use Rattle.lrup_model.specs.declared.clause_map.Published.TheVariants as publishing
use Rattle.lrup_model.specs.Distinct.{distinct}
use Rattle.stream_check.specs.declared.fault.Fault.{Fault}
use Rattle.stream_check.specs.declared.fault.Fault.TheVariants as faults
use Rattle.stream_check.specs.StreamParams.{StreamParams}
use Rattle.stream_check.specs.StreamContext.{StreamContext}
use Rattle.stream_check.specs.Verdicts.{LineVerdict, Good, Bad, Violates}
use Rattle.stream_check.specs.Lookup.{AreFound, LooksUp}

-- An addition is valid: its identity is the stream's own, and above the last identity that was
-- added, or above the formula's last one if there was no addition; its literals are over the
-- variables; its clause has no more literals than there is room for, and isn't a tautology; and the
-- clauses that its hints name derive this clause by propagation.
pub record IsValidAddition (layout : LayoutValue) (stream last free : ℕ)
    (Names : List ℕ → List Clause → Type 0) (id : ℕ) (lits : List ℤ)
    (hints : List ℕ) : Type 0 where
  pub owns : Owns layout stream id
  pub above : last < id
  pub literals : AllByRecursion (λ l. nat_abs l ≤ layout.vars) lits
  pub room : length (distinct lits) ≤ free
  pub clauses : List Clause
  pub named : Names hints clauses
  pub shown : Accepts (distinct lits) clauses

-- the conditions of an addition that are tested before its hints, in order
abbrev pub BeforeHints : StreamParams → StreamContext → ℕ → List ℤ → History → Fault
    → Type 0 → Type 0
BeforeHints params context id lits history fault Next =
    Violates (Owns params.layout params.stream id × (context.last < id))
    faults.Identity history fault
    (Violates (AllByRecursion (λ l. nat_abs l ≤ params.layout.vars) lits)
    faults.Literal history fault
    (Violates (¬ IsTautology lits) faults.Tautology history fault
    (Violates (length (distinct lits) ≤ context.free) faults.NoRoom history fault Next)))

-- A hint's clause doesn't help: it is neither unit nor a conflict; or it is a conflict, but another
-- hint follows.
abbrev pub Misleads : List ℤ → Clause → ℕ → List ℕ → Fault → Type 0
Misleads falses clause hint later fault =
    ((¬ IsConflict falses clause) × ((literal : ℤ) → ¬ IsUnit falses clause literal)
    × (fault ≡ faults.NotUnit hint))
    ⊎ (IsConflict falses clause × (next : ℕ) × (more : List ℕ) × (later ≡ next ∷ more)
    × (fault ≡ faults.Excess next))

-- Hints fail, from one hint's look-up on: the look-up gives a fault; or the clause is unit and
-- makes one more literal false, and the later hints fail; or the clause doesn't help.
abbrev pub FailsBy : Result Clause Fault → List ℤ → ℕ → List ℕ → History → Fault
    → (List ℤ → Type 0) → Type 0
FailsBy (Ok clause) falses hint later history fault Next =
    ((literal : ℤ) × IsUnit falses clause literal × Next (falses ++ neg_ℤ literal ∷ []))
    ⊎ ((history ≡ []) × Misleads falses clause hint later fault)
FailsBy (Err its) falses hint later history fault Next = (history ≡ []) × (fault ≡ its)

-- The hints fail, with these literals false: the fault comes from the first hint whose look-up
-- fails or whose clause doesn't help, or there is no conflict.
abbrev pub FailsHints : StreamParams → (ℕ → Bool) → List ℤ → List ℕ → History → Fault → Type 0
FailsHints params is_dropped falses [] history fault = (history ≡ []) × (fault ≡ faults.NoConflict)
FailsHints params is_dropped falses (hint ∷ hints) history fault =
    (asked rest : History) × (history ≡ asked ++ rest) × (answer : Result Clause Fault)
    × LooksUp params is_dropped hint asked answer
    × FailsBy answer falses hint hints rest fault
    (λ more_falses. FailsHints params is_dropped more_falses hints rest fault)

-- the publish event of a good addition
abbrev pub published_by : StreamParams → ℕ → List ℤ → Event
published_by params id lits = events.publish params.stream id (distinct lits) publishing.Done

-- An addition's events and its verdict, after lines that left this context: the addition is valid
-- with the clauses that its events find, and its last event publishes its clause; or the first
-- condition that the addition violates gives the fault.
abbrev pub JudgesAddition : StreamParams → StreamContext → ℕ → List ℤ → List ℕ → History
    → LineVerdict
    → Type 0
JudgesAddition params context id lits hints history Good =
    (fetches : History)
    × IsValidAddition params.layout params.stream context.last context.free
    (λ ids clauses. AreFound params context.is_dropped ids clauses fetches) id lits hints
    × (history ≡ fetches ++ published_by params id lits ∷ [])
JudgesAddition params context id lits hints history (Bad deleted fault) =
    (deleted ≡ 0)
    × BeforeHints params context id lits history fault
    (FailsHints params context.is_dropped (distinct lits) hints history fault)
