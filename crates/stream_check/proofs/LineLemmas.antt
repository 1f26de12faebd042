-- How one line changes the checker's state and the view.
use Rattle.std.proofs.Common.{◌≡◌, ◌<◌, ◌+◌, ◌-◌, ℕ, ℤ, Bool, true, false, List, [], ◌∷◌, ◌++◌, length, Ok, Err, refl, sym, ap, subst, ◌∙◌}
use Rattle.std.proofs.Common.{inl, inr, arith}
use Rattle.std.specs.Prelude.{◌||◌, ◌&&◌, ◌==◌}
use Rattle.std.specs.List.{AllByRecursion}
use Rattle.std.proofs.lemmas.Bool.{cases_eq}
use Rattle.std.proofs.Math.Dec.{eqb-suc-zero}
use Rattle.lrup_model.specs.Layout.{Owns}
use Rattle.lrup_model.specs.Event as events
use Rattle.lrup_model.specs.Event.{Event, History, stream_of, own, spent}
use Rattle.lrup_model.specs.State.{State, Slot, absent, live, retire_slot, run}
use Rattle.lrup_model.specs.CallerView.{Caller, CallerView, CallerStep, IsVacantAbove}
use Rattle.lrup_model.specs.lemmas.RunningLemmas.{run-append, spent-append}
use Rattle.lrup_model.specs.lemmas.HistoryLemmas.{put, put-same, put-other, spent_one}
use Rattle.lrup_model.specs.declared.clause_map.Retired.TheVariants as retiring
use Rattle.lrup_text.specs.Lines.{Addition, Deletion, Import}
use Rattle.lrup_model.specs.Distinct.{distinct}
use Rattle.stream_check.specs.declared.fault.Fault.{Fault}
use Rattle.stream_check.specs.declared.line_stop.LineStop.{LineStop}
use Rattle.stream_check.specs.declared.line_stop.LineStop.TheVariants as stops
use Rattle.stream_check.specs.StreamParams.{StreamParams, ownership_of, is_shared}
use Rattle.stream_check.specs.StreamContext.{capped, is_among, is_within}
use Rattle.stream_check.specs.Verdicts.{Good, Bad}
use Rattle.stream_check.specs.lemmas.EventLemmas.{found_all}
use Rattle.stream_check.specs.Additions.{published_by, JudgesAddition}
use Rattle.stream_check.specs.Imports.{JudgesImport}
use Rattle.stream_check.specs.Reaching.{tally_after}
use Rattle.stream_check.specs.Checker.{IsViewOf}
use Rattle.stream_check.specs.internal.Checking.{IsFetch, Deletes}
use Rattle.stream_check.specs.Deletions.{IsRetire}
use Rattle.stream_check.specs.internal.CheckerInside.{StreamStateValue, context_at, tally_at, deleted_at, KeepsLines}
use Rattle.stream_check.specs.internal.Taking.{IsReady, DeletesMore, TakesBy}
use Rattle.stream_check.proofs.AddLemmas.{spent-skips, spent-fetches, still_at}
use Rattle.stream_check.specs.lemmas.AdditionLemmas.{run-fetches}
use Rattle.stream_check.specs.lemmas.ContextLemmas.{same_tally}
use Rattle.stream_check.specs.lemmas.StoppingLemmas.{drops_none}

-- The view after only fetches

-- an identity that is the stream's own in the later view is its own in the earlier one
own_before : (p q : CallerView) (es : History) (j : ℕ) → CallerStep p q es → Owns q.caller.layout q.caller.stream j
    → Owns p.caller.layout p.caller.stream j
own_before p q es j step theirs = subst (λ (r : Caller). Owns r.layout r.stream j) step.caller theirs

vacant_on : (p q : CallerView) (es : History) (last : ℕ) → CallerStep p q es → ((j : ℕ) → p.own j ≡ absent → run p.own es j ≡ absent)
    → IsVacantAbove p last → IsVacantAbove q last
vacant_on p q es last step stays vacant j theirs above =
    let mine = own_before p q es j step theirs in step.own j mine ∙ stays j (vacant j mine above)

pub ready_fetches : (h : StreamStateValue) (p q : CallerView) (es : History) → CallerStep p q es → AllByRecursion IsFetch es → IsReady h p
    → IsReady h q
ready_fetches h p q es step quiet ready = record {
  at = still_at h.params p q es ready.at step;
  vacant = vacant_on p q es h.last step (λ j none. ap (λ (m : State). m j) (run-fetches p.own es quiet) ∙ none) ready.vacant;
}

-- The view after only retires

retired_absent : (slot : Slot) → slot ≡ absent → retire_slot slot ≡ absent
retired_absent slot none = subst (λ (s : Slot). retire_slot s ≡ absent) (sym none) refl

run-retires-absent : (m : State) (es : History) (j : ℕ) → AllByRecursion IsRetire es → m j ≡ absent → run m es j ≡ absent
run-retires-absent m [] j quiet none = none
run-retires-absent m (events.fetch s id r ∷ es) j quiet none = absurd quiet.0
run-retires-absent m (events.publish s id c r ∷ es) j quiet none = absurd quiet.0
run-retires-absent m (events.retire s id retiring.NotLive ∷ es) j quiet none = run-retires-absent m es j quiet.1 none
run-retires-absent m (events.retire s id retiring.Done ∷ es) j quiet none =
    run-retires-absent (put m id (retire_slot (m id))) es j quiet.1 (elim (cases_eq j id) [
      | inl same ↦ put-same m id (retire_slot (m id)) j same ∙ retired_absent (m id) (ap m (sym same) ∙ none)
      | inr other ↦ put-other m id (retire_slot (m id)) j other ∙ none
    ])

spent-retires : (s : ℕ) (es : History) → AllByRecursion IsRetire es → spent s es ≡ 0
spent-retires s [] h = refl
spent-retires s (events.fetch t id r ∷ es) h = absurd h.0
spent-retires s (events.publish t id c r ∷ es) h = absurd h.0
spent-retires s (events.retire t id r ∷ es) h = spent-skips (events.retire t id r) (own es s) (stream_of (events.retire t id r) == s) refl
    ∙ spent-retires s es h.1

pub room_retires : (p q : CallerView) (es : History) → CallerStep p q es → AllByRecursion IsRetire es → q.room ≡ p.room
room_retires p q es step quiet = omega (arith, step.room, spent-retires p.caller.stream es quiet)

-- the next line can be checked after the retires of a deletion
pub ready_retires : (old new : StreamStateValue) (p q : CallerView) (es : History) → CallerStep p q es → AllByRecursion IsRetire es
    → KeepsLines old new → IsReady old p → IsReady new q
ready_retires old new p q es step quiet kept ready = record {
  at = rw kept (still_at old.params p q es ready.at step);
  vacant = rw kept (vacant_on p q es old.last step (λ j none. run-retires-absent p.own es j quiet none) ready.vacant);
}

-- The view after a publish

published_run : (m : State) (fetches : History) (c : StreamParams) (id : ℕ) (lits : List ℤ) → AllByRecursion IsFetch fetches
    → run m (fetches ++ published_by c id lits ∷ []) ≡ put m id (live (distinct lits))
published_run m fetches c id lits quiet = run-append m fetches (published_by c id lits ∷ [])
    ∙ ap (λ (n : State). put n id (live (distinct lits))) (run-fetches m fetches quiet)

pub ready_publish : (old new : StreamStateValue) (p q : CallerView) (free : ℕ) (es : History) (id : ℕ) (lits : List ℤ) (hints : List ℕ)
    → CallerStep p q es → JudgesAddition old.params (context_at old free) id lits hints es Good → new.params ≡ old.params → new.last ≡ id
    → IsReady old p → IsReady new q
ready_publish old new p q free es id lits hints step (fetches, good, made) params last ready =
    let c = old.params in
    let there : run p.own es ≡ put p.own id (live (distinct lits)) = ap (run p.own) made
    ∙ published_run p.own fetches c id lits (found_all c IsFetch (λ h r. tt) _ hints good.clauses fetches good.named) in
    let owned : (j : ℕ) → Owns q.caller.layout q.caller.stream j → q.own j ≡ put p.own id (live (distinct lits)) j =
    λ j theirs. step.own j (own_before p q es j step theirs) ∙ ap (λ (m : State). m j) there in
    record {
      at = subst (λ (x : StreamParams). IsViewOf x q) (sym params) (still_at c p q es ready.at step);
      vacant = λ j theirs higher.
          let finished : id < j = omega (arith, higher, last) in
          let other : j ≡ id → ⊥ = λ same. omega (arith, finished, same) in
          owned j theirs ∙ put-other p.own id (live (distinct lits)) j other
          ∙ ready.vacant j (own_before p q es j step theirs) (omega (arith, finished, good.above));
    }

pub room_publish : (old : StreamStateValue) (p q : CallerView) (free : ℕ) (es : History) (id : ℕ) (lits : List ℤ) (hints : List ℕ)
    → IsViewOf old.params p → CallerStep p q es → JudgesAddition old.params (context_at old free) id lits hints es Good
    → q.room ≡ p.room - length (distinct lits)
room_publish old p q free es id lits hints at step (fetches, good, made) =
    let e : Event = published_by old.params id lits in
    let one : spent p.caller.stream (e ∷ []) ≡ length (distinct lits) = spent_one p.caller.stream e (sym at.stream) in
    let all : spent p.caller.stream es ≡ length (distinct lits) =
    ap (spent p.caller.stream) made ∙ spent-append p.caller.stream fetches (e ∷ [])
    ∙ omega (
      arith,
      spent-fetches p.caller.stream fetches (found_all old.params IsFetch (λ h r. tt) _ hints good.clauses fetches
          good.named),
      one,
    ) in
    omega (arith, step.room, all)

-- What a checker holds after a good line

none_gone : (a s : Bool) → a ≡ (a || s && false)
none_gone true s = refl
none_gone false true = refl
none_gone false false = refl

or_false : (a : Bool) → a ≡ (a || false)
or_false true = refl
or_false false = refl

-- a line has no literals exactly if its clause is empty
empty_is : (b : Bool) (lits : List ℤ) → b ≡ (length lits == 0) → b ≡ ((length (distinct lits) == 0) || false)
empty_is b [] is = is
empty_is b (l ∷ lits) is = is ∙ eqb-suc-zero (length lits) ∙ sym (ap (λ x. x || false) (eqb-suc-zero _))

-- what a checker holds after one more good addition
pub takes_addition : (old : StreamStateValue) (free left : ℕ) (id : ℕ) (lits : List ℤ) (hints : List ℕ) (es : History)
    (is_empty within_cube : Bool)
    → is_empty ≡ (length lits == 0) → within_cube ≡ is_within old.params.cube (distinct lits) → left ≡ free - length (distinct lits)
    → JudgesAddition old.params (context_at old free) id lits hints es Good
    → TakesBy old free
    (record old {
      last = id;
      added = old.added + 1;
      empty = old.empty || is_empty;
      within = old.within || within_cube;
      line = capped (old.line + 1);
    }) left (Addition id lits hints) es (Ok tt)
takes_addition old free left id lits hints es is_empty within_cube is within room judged = (
  judged,
  λ read. record {
    tally = same_tally _ (tally_after old.params (tally_at old) (Addition id lits hints)) refl (omega arith)
        (ap (λ (b : Bool). old.empty || b) (empty_is is_empty lits is))
        (ap (λ (b : Bool). old.within || b) (within ∙ or_false (is_within old.params.cube (distinct lits))));
    context = record {
      last = refl;
      free = omega (arith, room);
      is_dropped = λ j. none_gone (is_among old.dropped.ids j) (is_shared (ownership_of old.params j));
    };
    pending = refl;
    line = refl;
  },
)

-- what a checker holds after one more good deletion or import
pub takes_deletion : (old mid : StreamStateValue) (free left : ℕ) (lead : ℕ) (ids : List ℕ) (es : History) (count : ℕ) → KeepsLines old mid
    → deleted_at mid ≡ capped (deleted_at old + count) → left ≡ free
    → Deletes old.params old.dropped.ids mid.dropped.ids ids es count (Ok tt)
    → TakesBy old free (record mid { line = capped (mid.line + 1) }) left (Deletion lead ids) es (Ok tt)
takes_deletion old mid free left lead ids es count kept more room deletes = (
  deletes.0,
  λ read. record {
    tally = same_tally _ (tally_after old.params (tally_at old) (Deletion lead ids))
        (omega (arith, ap (λ (v : StreamStateValue). v.added) kept))
        (omega (arith, more, deletes.1))
        (ap (λ (v : StreamStateValue). v.empty) kept ∙ or_false old.empty)
        (ap (λ (v : StreamStateValue). v.within) kept ∙ or_false old.within);
    context = record { last = ap (λ (v : StreamStateValue). v.last) kept; free = omega (arith, room); is_dropped = deletes.2 };
    pending = refl;
    line = ap (λ (v : StreamStateValue). capped (v.line + 1)) kept;
  },
)

pub takes_import : (old : StreamStateValue) (free left : ℕ) (id : ℕ) (lits : List ℤ) (es : History) → left ≡ free
    → JudgesImport old.params (context_at old free) id lits es Good
    → TakesBy old free (record old { line = capped (old.line + 1) }) left (Import id lits) es (Ok tt)
takes_import old free left id lits es room judged = (
  judged,
  λ read. record {
    tally = same_tally _ (tally_after old.params (tally_at old) (Import id lits)) (omega arith) (omega arith) (or_false old.empty)
        (or_false old.within);
    context = record {
      last = refl;
      free = omega (arith, room);
      is_dropped = λ j. none_gone (is_among old.dropped.ids j) (is_shared (ownership_of old.params j));
    };
    pending = refl;
    line = refl;
  },
)

-- What a checker holds after a line that stopped the stream

pub stops_deletion : (old mid : StreamStateValue) (free left : ℕ) (lead : ℕ) (ids : List ℕ) (es : History) (count : ℕ) (stop : LineStop)
    → KeepsLines old mid → deleted_at mid ≡ capped (deleted_at old + count)
    → Deletes old.params old.dropped.ids mid.dropped.ids ids es count (Err stop)
    → TakesBy old free mid left (Deletion lead ids) es (Err stop)
stops_deletion old mid free left lead ids es count (stops.Bad fault) kept more deletes =
    (deletes.0, deletes.1, deletes.3, deletes.4, record { kept = kept; deleted = omega (arith, more, deletes.2); dropped = deletes.5 })
stops_deletion old mid free left lead ids es count stops.Memory kept more deletes =
    (lead, ids, deletes.0, refl, deletes.2, record { kept = kept; deleted = omega (arith, more, deletes.1); dropped = deletes.3 })

deletes_none : (old : StreamStateValue) → DeletesMore old old []
deletes_none old = record { kept = refl; deleted = omega arith; dropped = drops_none old.params (is_among old.dropped.ids) }

pub stops_addition : (old : StreamStateValue) (free left : ℕ) (id : ℕ) (lits : List ℤ) (hints : List ℕ) (es : History) (fault : Fault)
    → JudgesAddition old.params (context_at old free) id lits hints es (Bad 0 fault)
    → TakesBy old free old left (Addition id lits hints) es (Err (stops.Bad fault))
stops_addition old free left id lits hints es fault judged =
    ([], [], refl, judged, deletes_none old)

pub stops_import : (old : StreamStateValue) (free left : ℕ) (id : ℕ) (lits : List ℤ) (es : History) (fault : Fault)
    → JudgesImport old.params (context_at old free) id lits es (Bad 0 fault)
    → TakesBy old free old left (Import id lits) es (Err (stops.Bad fault))
stops_import old free left id lits es fault judged =
    ([], [], refl, judged, deletes_none old)
