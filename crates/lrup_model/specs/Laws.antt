-- Laws of the definitions, for every formula, layout, history and pass. Each is the contract of a
-- function in `laws.rt`.
use Rattle.std.specs.Prelude.{◌≡◌, ℕ, Bool, IsTrue, List}
use Rattle.std.specs.List.{AllByRecursion}
use Rattle.lrup_model.specs.Clause.{Clause}
use Rattle.lrup_model.specs.Formula.{Cnf, IsCnf}
use Rattle.lrup_model.specs.Entailment.{Follows, IsDerived}
use Rattle.lrup_model.specs.Cube.{CubeValue, Within, IsUnsatisfiableUnder}
use Rattle.lrup_model.specs.Propagation.{Accepts}
use Rattle.lrup_model.specs.Layout.{LayoutValue, Owns}
use Rattle.lrup_model.specs.Event as events
use Rattle.lrup_model.specs.Event.{Event, Reply, History, own}
use Rattle.lrup_model.specs.State.{State, Slot, absent, live, retired, HasClause, opening, run, state}
use Rattle.lrup_model.specs.History.{LegalFrom}
use Rattle.lrup_model.specs.CallerView.{CallerView, ClipValue, clip_clause, IsKnown, CallerStep}
use Rattle.lrup_model.specs.Pass.{View, PassMoves, pass_caller_view}

-- Entailment

-- if hints derive a clause, and all hinted clauses are over a formula's variables and follow from
-- the formula, then the clause follows from the formula
abbrev pub PropagationSound : Type 0
PropagationSound = (formula : Cnf) (clause : Clause) (hinted : List Clause)
    → AllByRecursion (IsDerived formula) hinted → Accepts clause hinted → Follows formula clause

-- if a clause over a formula's variables follows from the formula, and assumptions make the clause
-- false, no assignment satisfies both the formula and the assumptions
abbrev pub WithinRefutes : Type 0
WithinRefutes = (formula : Cnf) (clause : Clause) (cube : CubeValue) → IsDerived formula clause
    → Within clause cube → IsUnsatisfiableUnder formula cube

-- What a history leaves under an identity

-- every clause that a legal history of a formula leaves, live or retired, is over the formula's
-- variables and follows from the formula
abbrev pub ClausesFollow : Type 0
ClausesFollow = (formula : Cnf) (layout : LayoutValue) (history : History) (id : ℕ)
    (clause : Clause) → IsCnf formula → LegalFrom formula layout (opening formula) history
    → HasClause (state formula history id) clause → IsDerived formula clause

-- what a legal history leaves under a stream's own identity depends only on that stream's calls
abbrev pub OwnCallsDecide : Type 0
OwnCallsDecide = (formula : Cnf) (layout : LayoutValue) (history : History) (s id : ℕ)
    → LegalFrom formula layout (opening formula) history → Owns layout s id
    → state formula history id ≡ state formula (own history s) id

-- the slot stays the same, or moves on in the order absent, live, retired, and keeps its clause if
-- it has one
abbrev pub Advances : Slot → Slot → Type 0
Advances absent new = Unit {0}
Advances (live c) absent = ⊥
Advances (live c) (live d) = d ≡ c
Advances (live c) (retired d) = d ≡ c
Advances (retired c) absent = ⊥
Advances (retired c) (live d) = ⊥
Advances (retired c) (retired d) = d ≡ c

-- a legal history moves no entry back, and changes no entry's clause
abbrev pub EntriesAdvance : Type 0
EntriesAdvance = (f : Cnf) (p : LayoutValue) (m : State) (h : History) (id : ℕ) → LegalFrom f p m h
    → Advances (m id) (run m h id)

-- Clips and passes

-- a clip that is known in a view stays known, with the same literals, through all later calls
abbrev pub KnownStays : Type 0
KnownStays = (a b : CallerView) (es : History) (clip : ClipValue) → CallerStep a b es
    → IsKnown a clip
    → IsKnown b clip × (clip_clause b clip ≡ clip_clause a clip)

-- if a pass makes these calls, its caller's view changes as `CallerStep` says
abbrev pub PassSteps : Type 0
PassSteps = (a b : View) (es : History) → PassMoves a b es
    → CallerStep (pass_caller_view a) (pass_caller_view b) es

-- The events of some streams

-- the reply says that the identity isn't vacant
abbrev pub IsFound : Reply → Type 0
IsFound events.vacant = ⊥
IsFound (events.live c) = Unit {0}
IsFound events.retired = Unit {0}

-- if a stream of the set fetches an identity and finds a clause, no stream outside the set owns the
-- identity
abbrev pub FindsWithin : LayoutValue → (ℕ → Bool) → Event → Type 0
FindsWithin p set (events.fetch s id r) =
    IsTrue (set s) → IsFound r → (t : ℕ) → Owns p t id → IsTrue (set t)
FindsWithin p set (events.publish s id c r) = Unit {0}
FindsWithin p set (events.retire s id r) = Unit {0}
