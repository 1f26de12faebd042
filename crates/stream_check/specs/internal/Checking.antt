-- What the parts of a checker do: a lookup, the hints of an addition, an addition, and the
-- identities of a deletion (this project's own).
use Rattle.std.specs.Prelude.{◌≡◌, ◌==◌, ◌++◌, ◌||◌, ◌&&◌, ℕ, Bool, true, false, List, [], ◌∷◌, length, Result, Ok, Err}
use Rattle.std.specs.List.{AllByRecursion}
use Rattle.lrup_model.specs.Clause.{Clause}
use Rattle.lrup_model.specs.Formula.{Cnf}
use Rattle.lrup_model.specs.Entailment.{IsDerived}
use Rattle.lrup_model.specs.Event as events
use Rattle.lrup_model.specs.Event.{Event, History}
use Rattle.lrup_model.specs.CallerView.{CallerView, ClipValue, IsKnown, AllFollow, clip_clause}
use Rattle.lrup_model.specs.Propagation.{Accepts}
use Rattle.lrup_model.specs.declared.clause_map.Fetched.{Fetched}
use Rattle.lrup_model.specs.declared.clause_map.Fetched.TheVariants as fetched
use Rattle.lrup_model.specs.declared.clause_map.Retired.TheVariants as retiring
use Rattle.propagate.specs.Marks.{Propagation}
use Rattle.stream_check.specs.declared.fault.Fault.{Fault}
use Rattle.stream_check.specs.declared.fault.Fault.TheVariants as faults
use Rattle.stream_check.specs.declared.params.Ownership.{Ownership}
use Rattle.stream_check.specs.declared.params.Ownership.TheVariants as ownerships
use Rattle.stream_check.specs.declared.line_stop.LineStop.{LineStop}
use Rattle.stream_check.specs.declared.line_stop.LineStop.TheVariants as stops
use Rattle.stream_check.specs.StreamParams.{StreamParams, ownership_of, is_shared}
use Rattle.stream_check.specs.StreamContext.{is_among}
use Rattle.stream_check.specs.Verdicts.{LineVerdict, Good, Bad}
use Rattle.stream_check.specs.Lookup.{AreFound}
use Rattle.stream_check.specs.Additions.{FailsHints}
use Rattle.stream_check.specs.Deletions.{JudgesDeletion, StopsDeletion}

-- a live clause that a fetch gave is known in the view, every clause of the view follows from the
-- formula, and the layout has the formula's variables
abbrev pub Gives : CallerView → Fetched → Type 0
Gives view fetched.Vacant = Unit {0}
Gives view (fetched.Live clip) =
    IsKnown view clip × AllFollow view × (view.caller.formula.vars ≡ view.caller.layout.vars)
Gives view fetched.Retired = Unit {0}

-- the event is a fetch
abbrev pub IsFetch : Event → Type 0
IsFetch (events.fetch s id reply) = Unit {0}
IsFetch (events.publish s id clause reply) = ⊥
IsFetch (events.retire s id reply) = ⊥

-- Additions

-- the marks still have the same variables and the same clause
abbrev pub KeepsClause : Propagation → Propagation → Type 0
KeepsClause old new = (new.vars ≡ old.vars) × (new.clause ≡ old.clause)

-- what a look-up found: the clause of the clip, or the fault
abbrev pub found_by : CallerView → Result ClipValue Fault → Result Clause Fault
found_by view (Ok clip) = Ok (clip_clause view clip)
found_by view (Err fault) = Err fault

-- the result of an addition's hints: they derive its clause, or there is a fault
abbrev pub Shows : StreamParams → (ℕ → Bool) → Cnf → Clause → List ℕ → History
    → Result (Unit {0}) Fault
    → Type 0
Shows params is_dropped formula clause hints history (Ok _) =
    (hinted : List Clause) × AllByRecursion (IsDerived formula) hinted × Accepts clause hinted
    × (formula.vars ≡ params.layout.vars) × AreFound params is_dropped hints hinted history
Shows params is_dropped formula clause hints history (Err fault) =
    FailsHints params is_dropped clause hints history fault

-- the result if these hints are left after the conflict: no hint may be left
abbrev pub excess_of : List ℕ → Result (Unit {0}) Fault
excess_of [] = Ok tt
excess_of (hint ∷ hints) = Err (faults.Excess hint)

-- the verdict of an addition or an import that is good, or has this fault
abbrev pub line_verdict : Result (Unit {0}) Fault → LineVerdict
line_verdict (Ok _) = Good
line_verdict (Err fault) = Bad 0 fault

-- Deletions

-- Deleting one of the stream's own identities: the reply to one retire decides. Deleting any other
-- identity has no event.
abbrev pub DeletesOwn : StreamParams → ℕ → List ℕ → List ℕ → History → Result (Unit {0}) LineStop
    → Type 0
DeletesOwn params id old new history (Ok _) =
    (history ≡ events.retire params.stream id retiring.Done ∷ []) × (new ≡ old)
DeletesOwn params id old new history (Err (stops.Bad fault)) =
    (history ≡ events.retire params.stream id retiring.NotLive ∷ []) × (fault ≡ faults.NotLive id)
    × (new ≡ old)
DeletesOwn params id old new history (Err stops.Memory) = ⊥

-- deleting an identity of the formula or of another stream: it joins the dropped identities, unless
-- it is already among them
abbrev pub DropsShared : ℕ → List ℕ → List ℕ → Result (Unit {0}) LineStop → Type 0
DropsShared id old new (Ok _) =
    (is_among old id ≡ false) × ((j : ℕ) → is_among new j ≡ (is_among old j || id == j))
DropsShared id old new (Err (stops.Bad fault)) =
    (is_among old id ≡ true) × (fault ≡ faults.NotLive id) × (new ≡ old)
DropsShared id old new (Err stops.Memory) = (is_among old id ≡ false) × (new ≡ old)

abbrev pub DeletesByOwnership : Ownership → StreamParams → ℕ → List ℕ → List ℕ → History
    → Result (Unit {0}) LineStop → Type 0
DeletesByOwnership ownerships.Formula params id old new history result =
    (history ≡ []) × DropsShared id old new result
DeletesByOwnership ownerships.Own params id old new history result =
    DeletesOwn params id old new history result
DeletesByOwnership ownerships.Foreign params id old new history result =
    (history ≡ []) × DropsShared id old new result
DeletesByOwnership ownerships.Outside params id old new history result =
    (history ≡ []) × (result ≡ Err (stops.Bad (faults.NotLive id))) × (new ≡ old)

-- deleting one identity, with these identities dropped before, and these afterwards
abbrev pub DeletesOne : StreamParams → ℕ → List ℕ → List ℕ → History → Result (Unit {0}) LineStop
    → Type 0
DeletesOne params id old new history result =
    DeletesByOwnership (ownership_of params id) params id old new history result

-- by how much this result raises the count of deleted identities
abbrev pub counted : Result (Unit {0}) LineStop → ℕ
counted (Ok _) = 1
counted (Err stop) = 0

-- the new dropped identities are the old ones and the shared ones among `ids`
abbrev pub DropsMore : StreamParams → (ℕ → Bool) → List ℕ → (ℕ → Bool) → Type 0
DropsMore params old ids new =
    (id : ℕ) → new id ≡ (old id || is_shared (ownership_of params id) && is_among ids id)

-- The dropped identities are the old ones and the shared ones among `ids`.
abbrev pub AreDropped : StreamParams → List ℕ → List ℕ → List ℕ → Type 0
AreDropped params old ids new = DropsMore params (is_among old) ids (is_among new)

-- The result of a deletion: it is good, or bad, or runs out of memory, after this many identities;
-- the shared ones among these were dropped.
abbrev pub Deletes : StreamParams → List ℕ → List ℕ → List ℕ → History → ℕ
    → Result (Unit {0}) LineStop
    → Type 0
Deletes params old new ids history count (Ok _) =
    JudgesDeletion params (is_among old) [] ids history Good × (count ≡ length ids)
    × AreDropped params old ids new
Deletes params old new ids history count (Err (stops.Bad fault)) =
    (earlier later : List ℕ) × (count ≡ length earlier) × (ids ≡ earlier ++ later)
    × JudgesDeletion params (is_among old) [] ids history (Bad (length earlier) fault)
    × AreDropped params old earlier new
Deletes params old new ids history count (Err stops.Memory) =
    (earlier : List ℕ) × (count ≡ length earlier)
    × StopsDeletion params (is_among old) ids history earlier × AreDropped params old earlier new
