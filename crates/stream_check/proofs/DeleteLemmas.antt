-- Identities that are deleted one after the other.
use Rattle.std.proofs.Common.{◌≡◌, ◌<◌, ◌+◌, ℕ, Bool, true, false, List, [], ◌∷◌, ◌++◌, length, take, drop, get_or, Ok, Err, inl, inr, refl}
use Rattle.std.proofs.Common.{sym, ap, subst, ◌∙◌, append_assoc, append-nil, take-append-drop, drop-cons, add-one}
use Rattle.std.specs.Prelude.{◌||◌, ◌&&◌, ◌==◌}
use Rattle.std.proofs.lemmas.Bool.{eqb-true}
use Rattle.std.proofs.lemmas.List.Folds.{list_any-append}
use Rattle.lrup_model.specs.Event.{History}
use Rattle.stream_check.specs.declared.fault.Fault.{Fault}
use Rattle.stream_check.specs.declared.fault.Fault.TheVariants as faults
use Rattle.stream_check.specs.declared.line_stop.LineStop.{LineStop}
use Rattle.stream_check.specs.declared.line_stop.LineStop.TheVariants as stops
use Rattle.stream_check.specs.declared.params.Ownership.{Ownership}
use Rattle.stream_check.specs.declared.params.Ownership.TheVariants as ownerships
use Rattle.stream_check.specs.StreamParams.{StreamParams, ownership_of, is_shared}
use Rattle.stream_check.specs.StreamContext.{is_among}
use Rattle.stream_check.specs.Verdicts.{LineVerdict, Good, Bad}
use Rattle.stream_check.specs.Deletions.{DeletesAt, JudgesDeletion}
use Rattle.stream_check.specs.internal.Checking.{DeletesByOwnership, DeletesOne, AreDropped, Deletes}

-- The dropped identities

drop_bool : (f s e b : Bool) → (b ≡ true → s ≡ true) → ((f || s && e) || b) ≡ (f || s && (e || (b || false)))
drop_bool true s e b h = refl
drop_bool false true true b h = refl
drop_bool false true false true h = refl
drop_bool false true false false h = refl
drop_bool false false e true h = sym (h refl)
drop_bool false false e false h = refl

own_bool : (f s e b : Bool) → (b ≡ true → s ≡ false) → (f || s && e) ≡ (f || s && (e || (b || false)))
own_bool true s e b h = refl
own_bool false true true b h = refl
own_bool false true false true h = sym (h refl)
own_bool false true false false h = refl
own_bool false false e b h = refl

-- one more identity was deleted: a shared identity is dropped, an identity of the stream's own
-- isn't
dropped_shared : (c : StreamParams) (first earlier old new : List ℕ) (id : ℕ) → is_shared (ownership_of c id) ≡ true
    → AreDropped c first earlier old
    → ((j : ℕ) → is_among new j ≡ (is_among old j || id == j)) → AreDropped c first (earlier ++ id ∷ []) new
dropped_shared c first earlier old new id shared before added j =
    added j ∙ ap (λ (b : Bool). b || id == j) (before j)
    ∙ drop_bool (is_among first j) (is_shared (ownership_of c j)) (is_among earlier j) (id == j)
    (λ same. ap (λ k. is_shared (ownership_of c k)) (sym (eqb-true id j same)) ∙ shared)
    ∙ sym (ap (λ (b : Bool). is_among first j || is_shared (ownership_of c j) && b) (list_any-append (λ k. k == j) earlier (id ∷ [])))

dropped_own : (c : StreamParams) (first earlier old new : List ℕ) (id : ℕ) → is_shared (ownership_of c id) ≡ false
    → AreDropped c first earlier old
    → new ≡ old → AreDropped c first (earlier ++ id ∷ []) new
dropped_own c first earlier old new id mine before same j =
    ap (λ (ids : List ℕ). is_among ids j) same ∙ before j
    ∙ own_bool (is_among first j) (is_shared (ownership_of c j)) (is_among earlier j) (id == j)
    (λ is. ap (λ k. is_shared (ownership_of c k)) (sym (eqb-true id j is)) ∙ mine)
    ∙ sym (ap (λ (b : Bool). is_among first j || is_shared (ownership_of c j) && b) (list_any-append (λ k. k == j) earlier (id ∷ [])))

dropped_at : (ownership : Ownership) (c : StreamParams) (first earlier old new : List ℕ) (id : ℕ) (es : History)
    → ownership_of c id ≡ ownership
    → AreDropped c first earlier old → DeletesByOwnership ownership c id old new es (Ok tt) → AreDropped c first (earlier ++ id ∷ []) new
dropped_at ownerships.Own c first earlier old new id es is before deletes =
    dropped_own c first earlier old new id (ap is_shared is) before deletes.1
dropped_at ownerships.Outside c first earlier old new id es is before deletes =
    absurd (let e : Ok tt ≡ Err (stops.Bad (faults.NotLive id)) = deletes.1 in cc)
dropped_at _ c first earlier old new id es is before deletes =
    dropped_shared c first earlier old new id (ap is_shared is) before deletes.1.1

pub dropped_more : (c : StreamParams) (first earlier old new : List ℕ) (id : ℕ) (es : History) → AreDropped c first earlier old
    → DeletesOne c id old new es (Ok tt) → AreDropped c first (earlier ++ id ∷ []) new
dropped_more c first earlier old new id es before deletes = dropped_at (ownership_of c id) c first earlier old new id es refl before deletes

-- a shared identity counts as dropped exactly if it is in the set
dropped_shared_is : (c : StreamParams) (first earlier old : List ℕ) (id : ℕ) (b : Bool) → is_shared (ownership_of c id) ≡ true
    → AreDropped c first earlier old → is_among old id ≡ b → (is_among first id || is_among earlier id) ≡ b
dropped_shared_is c first earlier old id b shared before among =
    sym (ap (λ (s : Bool). is_among first id || s && is_among earlier id) shared) ∙ sym (before id) ∙ among

-- One identity

done_at : (ownership : Ownership) (c : StreamParams) (first earlier old new : List ℕ) (id : ℕ) (es rest : History) (v : LineVerdict)
    (Next : History
    → Type 0) → ownership_of c id ≡ ownership → AreDropped c first earlier old
    → DeletesByOwnership ownership c id old new es (Ok tt) → Next rest
    → DeletesAt ownership c (is_among first) earlier id (es ++ rest) v Next
done_at ownerships.Own c first earlier old new id es rest v Next is before deletes next =
    record { rest = rest; decided = inl (ap (λ (x : History). x ++ rest) deletes.0, next) }
done_at ownerships.Outside c first earlier old new id es rest v Next is before deletes next =
    absurd (let e : Ok tt ≡ Err (stops.Bad (faults.NotLive id)) = deletes.1 in cc)
done_at _ c first earlier old new id es rest v Next is before deletes next =
    inr (
      dropped_shared_is c first earlier old id false (ap is_shared is) before deletes.1.0,
      subst Next (sym (ap (λ (x : History). x ++ rest) deletes.0)) next,
    )

bad_at : (ownership : Ownership) (c : StreamParams) (first earlier old new : List ℕ) (id : ℕ) (es : History) (fault : Fault)
    (Next : History → Type 0)
    → ownership_of c id ≡ ownership → AreDropped c first earlier old
    → DeletesByOwnership ownership c id old new es (Err (stops.Bad fault))
    → DeletesAt ownership c (is_among first) earlier id es (Bad (length earlier) fault) Next
bad_at ownerships.Own c first earlier old new id es fault Next is before deletes = record {
  rest = [];
  decided = inr (deletes.0, (refl, ap (λ f. Bad (length earlier) f) deletes.1));
}
bad_at ownerships.Outside c first earlier old new id es fault Next is before deletes =
    (deletes.0, ap (λ f. Bad (length earlier) f) (let e : Err (stops.Bad fault) ≡ Err (stops.Bad (faults.NotLive id)) = deletes.1 in cc))
bad_at _ c first earlier old new id es fault Next is before deletes = inl (
  dropped_shared_is c first earlier old id true (ap is_shared is) before deletes.1.0,
  (deletes.0, ap (λ f. Bad (length earlier) f) deletes.1.1),
)

no_memory_at : (ownership : Ownership) (c : StreamParams) (first earlier old new : List ℕ) (id : ℕ) (es : History)
    → ownership_of c id ≡ ownership
    → AreDropped c first earlier old
    → DeletesByOwnership ownership c id old new es (Err stops.Memory)
    → (es ≡ []) × (is_shared (ownership_of c id) ≡ true) × ((is_among first id || is_among earlier id) ≡ false)
no_memory_at ownerships.Own c first earlier old new id es is before deletes = absurd deletes
no_memory_at ownerships.Outside c first earlier old new id es is before deletes =
    absurd (let e : Err stops.Memory ≡ Err (stops.Bad (faults.NotLive id)) = deletes.1 in cc)
no_memory_at _ c first earlier old new id es is before deletes =
    (deletes.0, ap is_shared is, dropped_shared_is c first earlier old id false (ap is_shared is) before deletes.1.0)

-- the identity at which the deletion stopped isn't dropped
kept_at : (ownership : Ownership) (c : StreamParams) (old new : List ℕ) (id : ℕ) (es : History) (stop : LineStop)
    → DeletesByOwnership ownership c id old new es (Err stop) → new ≡ old
kept_at ownerships.Formula c old new id es (stops.Bad fault) deletes = deletes.1.2
kept_at ownerships.Formula c old new id es stops.Memory deletes = deletes.1.1
kept_at ownerships.Own c old new id es (stops.Bad fault) deletes = deletes.2
kept_at ownerships.Own c old new id es stops.Memory deletes = absurd deletes
kept_at ownerships.Foreign c old new id es (stops.Bad fault) deletes = deletes.1.2
kept_at ownerships.Foreign c old new id es stops.Memory deletes = deletes.1.1
kept_at ownerships.Outside c old new id es stop deletes = deletes.2

dropped_until : (c : StreamParams) (first earlier old new : List ℕ) (id : ℕ) (es : History) (stop : LineStop)
    → AreDropped c first earlier old
    → DeletesOne c id old new es (Err stop) → AreDropped c first earlier new
dropped_until c first earlier old new id es stop before deletes = rw (kept_at (ownership_of c id) c old new id es stop deletes) before

-- One after the other

-- a judgement of the remaining identities gives a judgement of all identities
abbrev pub GoesOn : StreamParams → List ℕ → List ℕ → History → Type 0
GoesOn c first earlier es = (more : List ℕ) (rest : History) (v : LineVerdict)
    → JudgesDeletion c (is_among first) earlier more rest v → JudgesDeletion c (is_among first) [] (earlier ++ more) (es ++ rest) v

pub goes_on : (c : StreamParams) (first earlier old new : List ℕ) (id : ℕ) (es fs : History) → GoesOn c first earlier es
    → AreDropped c first earlier old → DeletesOne c id old new fs (Ok tt) → GoesOn c first (earlier ++ id ∷ []) (es ++ fs)
goes_on c first earlier old new id es fs before dropped deletes more rest v judged =
    let here : JudgesDeletion c (is_among first) earlier (id ∷ more) (fs ++ rest) v =
    done_at (ownership_of c id) c first earlier old new id fs rest v
    (λ x. JudgesDeletion c (is_among first) (earlier ++ id ∷ []) more x v) refl dropped deletes judged in
    rw (append_assoc es fs rest, append_assoc earlier (id ∷ []) more) (before (id ∷ more) (fs ++ rest) v here)

-- a list consists of the elements before an index, the element there, and the elements after it
pub among_ids : (ids : List ℕ) (i : ℕ) → i < length ids → ids ≡ take i ids ++ get_or ids i 0 ∷ drop (i + 1) ids
among_ids ids i lt = sym (take-append-drop i ids) ∙ ap (λ (js : List ℕ). take i ids ++ js) (rw (add-one, drop-cons ids i 0) refl)

-- the identities that were deleted so far are judged good
good_front : (c : StreamParams) (first earlier : List ℕ) (es : History) → GoesOn c first earlier es
    → JudgesDeletion c (is_among first) [] earlier es Good
good_front c first earlier es before = rw (append-nil es, append-nil earlier) at (before [] [] Good (refl, refl))

-- the deletion stops at an identity, because the identity is bad or memory runs out
pub stopped_deletion : (c : StreamParams) (first earlier old new : List ℕ) (id : ℕ) (later ids : List ℕ) (es fs : History) (stop : LineStop)
    → ids ≡ earlier ++ id ∷ later → GoesOn c first earlier es → AreDropped c first earlier old
    → DeletesOne c id old new fs (Err stop) → Deletes c first new ids (es ++ fs) (length earlier) (Err stop)
stopped_deletion c first earlier old new id later ids es fs (stops.Bad fault) is before dropped deletes =
    let v : LineVerdict = Bad (length earlier) fault in
    let here : JudgesDeletion c (is_among first) earlier (id ∷ later) fs v =
    bad_at (ownership_of c id) c first earlier old new id fs fault
    (λ x. JudgesDeletion c (is_among first) (earlier ++ id ∷ []) later x v) refl dropped deletes in (
      earlier,
      id ∷ later,
      refl,
      is,
      subst (λ (js : List ℕ). JudgesDeletion c (is_among first) [] js (es ++ fs) v) (sym is) (before (id ∷ later) fs v here),
      dropped_until c first earlier old new id fs (stops.Bad fault) dropped deletes,
    )
stopped_deletion c first earlier old new id later ids es fs stops.Memory is before dropped deletes =
    let at = no_memory_at (ownership_of c id) c first earlier old new id fs refl dropped deletes in (
      earlier,
      refl,
      record {
        id = id;
        later = later;
        identities = is;
        before = rw (ap (λ (x : History). es ++ x) at.0 ∙ append-nil es) (good_front c first earlier es before);
        shared = at.1;
        new = at.2;
      },
      dropped_until c first earlier old new id fs stops.Memory dropped deletes,
    )

-- if all identities are deleted, the deletion is good
pub good_deletion : (c : StreamParams) (first earlier ids : List ℕ) (es : History) → earlier ≡ ids → GoesOn c first earlier es
    → JudgesDeletion c (is_among first) [] ids es Good
good_deletion c first earlier ids es is before = rw is at (good_front c first earlier es before)
