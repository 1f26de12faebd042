-- The judge takes deletions as the relation says, with memory refused somewhere or nowhere.
use Rattle.std.proofs.Common.{◌≡◌, ◌⊎◌, ◌++◌, ℕ, Bool, true, false, List, [], ◌∷◌, length, inl, inr, refl, sym, ap, ap₂, ◌∙◌}
use Rattle.std.proofs.Common.{append_assoc, append-nil}
use Rattle.std.specs.Prelude.{◌==◌, ◌&&◌, ◌||◌, Option, Some, None}
use Rattle.lrup_model.specs.Event as events
use Rattle.lrup_model.specs.Event.{Event, History}
use Rattle.lrup_model.specs.declared.clause_map.Retired.{Retired}
use Rattle.lrup_model.specs.declared.clause_map.Retired.TheVariants as retiring
use Rattle.stream_check.specs.declared.fault.Fault.TheVariants as faults
use Rattle.stream_check.specs.declared.params.Ownership.{Ownership}
use Rattle.stream_check.specs.declared.params.Ownership.TheVariants as ownerships
use Rattle.stream_check.specs.StreamParams.{StreamParams, ownership_of, is_shared}
use Rattle.stream_check.specs.StreamContext.{is_among}
use Rattle.stream_check.specs.Verdicts.{LineVerdict, Good, Bad}
use Rattle.stream_check.specs.Deletions.{RetiresThen, DeletesAt, JudgesDeletion, StopsDeletion}
use Rattle.judge.specs.Judge.{Given, LineOutcome, Judged, OutOfMemory, retired, dropped, delete_one, is_refused, past_identity}
use Rattle.judge.specs.Judge.{judged_deletion}
use Rattle.judge.proofs.TestLemmas.{none_is, gives, given, give, passed, pass, Decides-both, both_same}
use Rattle.judge.proofs.LookUpLemmas.{Takes}

-- the same retire
same_retire : (s id t j : ℕ) (reply : Retired) → (s == t && id == j) ≡ true → events.retire t j reply ≡ events.retire s id reply
same_retire s id t j reply is =
    let same = (Decides-both s t id j).0 is in ap₂ (λ x y. events.retire x y reply) (sym same.0) (sym same.1)

pub verdict_is : (v w : LineVerdict) → Judged v ≡ Judged w → v ≡ w
verdict_is v w e = cc

count_is : (m n : ℕ) → OutOfMemory m ≡ OutOfMemory n → m ≡ n
count_is m n e = cc

module _ (c : StreamParams) (is_dropped : ℕ → Bool) where
  -- From the relation to the judge, one identity: what comes of it if the later identities give
  -- this, and a fault gives the same

  dropped_by : (gone : Bool) (count id : ℕ) (taken rest : History) (verdict : LineVerdict) (later : History → Given LineOutcome)
      (out : Given LineOutcome) (A : History → Type 0)
      → (verdict ≡ Bad count (faults.NotLive id) → gives (Judged (Bad count (faults.NotLive id))) rest ≡ out)
      → ((more : History) → A more → later (more ++ rest) ≡ out)
      → ((gone ≡ true) × ((taken ≡ []) × (verdict ≡ Bad count (faults.NotLive id)))) ⊎ ((gone ≡ false) × A taken)
      → dropped gone false count id (taken ++ rest) later ≡ out
  dropped_by true count id taken rest verdict later out A fails goes (inl (is, (none, bad))) =
      ap (λ h. gives (Judged (Bad count (faults.NotLive id))) (h ++ rest)) none ∙ fails bad
  dropped_by true count id taken rest verdict later out A fails goes (inr (is, holds)) = absurd (cc)
  dropped_by false count id taken rest verdict later out A fails goes (inl (is, (none, bad))) = absurd (cc)
  dropped_by false count id taken rest verdict later out A fails goes (inr (is, holds)) = goes taken holds

  retired_by : (earlier : List ℕ) (id : ℕ) (taken rest : History) (verdict : LineVerdict) (later : History → Given LineOutcome)
      (out : Given LineOutcome) (A : History → Type 0)
      → (verdict ≡ Bad (length earlier) (faults.NotLive id)
      → gives (Judged (Bad (length earlier) (faults.NotLive id))) rest ≡ out)
      → ((more : History) → A more → later (more ++ rest) ≡ out)
      → RetiresThen c earlier id taken verdict A
      → retired c.stream (length earlier) id (taken ++ rest) later ≡ out
  retired_by earlier id taken rest verdict later out A fails goes by =
      let bad = Judged (Bad (length earlier) (faults.NotLive id)) in
      elim by.decided [
        | inl done ↦ ap (λ h. retired c.stream (length earlier) id (h ++ rest) later) done.0
            ∙ pass (c.stream == c.stream && id == id) (later (by.rest ++ rest)) (both_same c.stream id) ∙ goes by.rest done.1
        | inr refused ↦ ap (λ h. retired c.stream (length earlier) id (h ++ rest) later) refused.0
            ∙ pass (c.stream == c.stream && id == id) (gives bad (by.rest ++ rest)) (both_same c.stream id)
            ∙ ap (λ h. gives bad (h ++ rest)) refused.1.0 ∙ fails refused.1.1
      ]

  at_by : (o : Ownership) (earlier : List ℕ) (id : ℕ) (taken rest : History) (verdict : LineVerdict) (later : History → Given LineOutcome)
      (out : Given LineOutcome) (A : History → Type 0)
      → (verdict ≡ Bad (length earlier) (faults.NotLive id)
      → gives (Judged (Bad (length earlier) (faults.NotLive id))) rest ≡ out)
      → ((more : History) → A more → later (more ++ rest) ≡ out)
      → DeletesAt o c is_dropped earlier id taken verdict A
      → delete_one o c.stream (is_dropped id || is_among earlier id) false (length earlier) id (taken ++ rest) later ≡ out
  at_by ownerships.Formula earlier id taken rest verdict later out A fails goes by =
      dropped_by (is_dropped id || is_among earlier id) (length earlier) id taken rest verdict later out A fails goes by
  at_by ownerships.Own earlier id taken rest verdict later out A fails goes by =
      retired_by earlier id taken rest verdict later out A fails goes by
  at_by ownerships.Foreign earlier id taken rest verdict later out A fails goes by =
      dropped_by (is_dropped id || is_among earlier id) (length earlier) id taken rest verdict later out A fails goes by
  at_by ownerships.Outside earlier id taken rest verdict later out A fails goes by =
      ap (λ h. gives (Judged (Bad (length earlier) (faults.NotLive id))) (h ++ rest)) by.0 ∙ fails by.1

  -- From the relation to the judge, all identities

  pub deletion_by : (ids earlier : List ℕ) (taken rest : History) (verdict : LineVerdict)
      → JudgesDeletion c is_dropped earlier ids taken verdict
      → judged_deletion c is_dropped None earlier ids (taken ++ rest) ≡ gives (Judged verdict) rest
  deletion_by [] earlier taken rest verdict by =
      give (Judged Good) (Judged verdict) (taken ++ rest) rest (ap Judged (sym by.1)) (ap (λ h. h ++ rest) by.0)
  deletion_by (id ∷ ids) earlier taken rest verdict by =
      at_by (ownership_of c id) earlier id taken rest verdict
      (λ left. judged_deletion c is_dropped None (earlier ++ id ∷ []) ids left) (gives (Judged verdict) rest)
      (λ more. JudgesDeletion c is_dropped (earlier ++ id ∷ []) ids more verdict)
      (λ bad. ap (λ v. gives (Judged v) rest) (sym bad))
      (λ more holds. deletion_by ids (earlier ++ id ∷ []) more rest verdict holds) by

  -- a deletion that runs out of memory, after a part that is good

  out_of_memory : (o : Ownership) (s count id : ℕ) (gone : Bool) (history : History) (later : History → Given LineOutcome)
      → is_shared o ≡ true → gone ≡ false
      → delete_one o s gone true count id history later ≡ gives (OutOfMemory count) history
  out_of_memory ownerships.Formula s count id gone history later shared new = ap (λ g. dropped g true count id history later) new
  out_of_memory ownerships.Own s count id gone history later shared new = absurd (let e : false ≡ true = shared in cc)
  out_of_memory ownerships.Foreign s count id gone history later shared new = ap (λ g. dropped g true count id history later) new
  out_of_memory ownerships.Outside s count id gone history later shared new = absurd (let e : false ≡ true = shared in cc)

  pub stops_by : (more earlier : List ℕ) (id : ℕ) (ids : List ℕ) (taken rest : History)
      → JudgesDeletion c is_dropped earlier more taken Good → is_shared (ownership_of c id) ≡ true
      → (is_dropped id || is_among (earlier ++ more) id) ≡ false
      → judged_deletion c is_dropped (Some (length more)) earlier (more ++ id ∷ ids) (taken ++ rest)
      ≡ gives (OutOfMemory (length (earlier ++ more))) rest
  stops_by [] earlier id ids taken rest by shared new =
      out_of_memory (ownership_of c id) c.stream (length earlier) id (is_dropped id || is_among earlier id) (taken ++ rest)
      (λ left. judged_deletion c is_dropped None (earlier ++ id ∷ []) ids left) shared
      (ap (λ l. is_dropped id || is_among l id) (sym (append-nil earlier)) ∙ new)
      ∙ give (OutOfMemory (length earlier)) (OutOfMemory (length (earlier ++ []))) (taken ++ rest) rest
      (ap (λ l. OutOfMemory (length l)) (sym (append-nil earlier))) (ap (λ h. h ++ rest) by.0)
  stops_by (first ∷ more) earlier id ids taken rest by shared new =
      at_by (ownership_of c first) earlier first taken rest Good
      (λ left. judged_deletion c is_dropped (Some (length more)) (earlier ++ first ∷ []) (more ++ id ∷ ids) left)
      (gives (OutOfMemory (length (earlier ++ first ∷ more))) rest)
      (λ part. JudgesDeletion c is_dropped (earlier ++ first ∷ []) more part Good)
      (λ bad. absurd (cc))
      (λ part holds. stops_by more (earlier ++ first ∷ []) id ids part rest holds shared
      (ap (λ l. is_dropped id || is_among l id) (append_assoc earlier (first ∷ []) more) ∙ new)
      ∙ ap (λ l. gives (OutOfMemory (length l)) rest) (append_assoc earlier (first ∷ []) more)) by

  -- From the judge to the relation

  -- what remains of a deletion runs out of memory, when the line has deleted this many identities
  record StopsAfter (earlier ids : List ℕ) (taken : History) (deleted : ℕ) : Type 0 where
    more : List ℕ
    id : ℕ
    later : List ℕ
    identities : ids ≡ more ++ id ∷ later
    before : JudgesDeletion c is_dropped earlier more taken Good
    shared : is_shared (ownership_of c id) ≡ true
    new : (is_dropped id || is_among (earlier ++ more) id) ≡ false
    count : deleted ≡ length (earlier ++ more)

  dropped_from : (gone refused : Bool) (count id : ℕ) (history rest : History) (verdict : LineVerdict) (later : History → Given LineOutcome)
      (A : History → Type 0) → (later history ≡ gives (Judged verdict) rest → Takes A history rest)
      → dropped gone refused count id history later ≡ gives (Judged verdict) rest
      → Takes (λ taken. ((gone ≡ true) × ((taken ≡ []) × (verdict ≡ Bad count (faults.NotLive id)))) ⊎ ((gone ≡ false) × A taken))
      history rest
  dropped_from true refused count id history rest verdict later A goes is =
      let same = given (Judged (Bad count (faults.NotLive id))) (Judged verdict) history rest is in
      ([], same.1, inl (refl, (refl, sym (verdict_is (Bad count (faults.NotLive id)) verdict same.0))))
  dropped_from false true count id history rest verdict later A goes is =
      absurd (let same = given (OutOfMemory count) (Judged verdict) history rest is in let e = same.0 in cc)
  dropped_from false false count id history rest verdict later A goes is =
      let more = goes is in (more.0, more.1, inr (refl, more.2))

  retired_from : (earlier : List ℕ) (id : ℕ) (history rest : History) (verdict : LineVerdict) (later : History → Given LineOutcome)
      (A : History → Type 0) → ((left : History) → later left ≡ gives (Judged verdict) rest → Takes A left rest)
      → retired c.stream (length earlier) id history later ≡ gives (Judged verdict) rest
      → Takes (λ taken. RetiresThen c earlier id taken verdict A) history rest
  retired_from earlier id [] rest verdict later A goes is = none_is (Judged verdict, rest) is
  retired_from earlier id (events.fetch t j reply ∷ history) rest verdict later A goes is = none_is (Judged verdict, rest) is
  retired_from earlier id (events.publish t j clause reply ∷ history) rest verdict later A goes is = none_is (Judged verdict, rest) is
  retired_from earlier id (events.retire t j retiring.Done ∷ history) rest verdict later A goes is =
      let test = passed (c.stream == t && id == j) (later history) (Judged verdict, rest) is in
      let more = goes history test.1 in (
        events.retire c.stream id retiring.Done ∷ more.0,
        ap₂ (λ (e : Event) (h : History). e ∷ h) (same_retire c.stream id t j retiring.Done test.0) more.1,
        record { rest = more.0; decided = inl (refl, more.2) },
      )
  retired_from earlier id (events.retire t j retiring.NotLive ∷ history) rest verdict later A goes is =
      let bad = Bad (length earlier) (faults.NotLive id) in
      let test = passed (c.stream == t && id == j) (gives (Judged bad) history) (Judged verdict, rest) is in
      let same = given (Judged bad) (Judged verdict) history rest test.1 in (
        events.retire c.stream id retiring.NotLive ∷ [],
        ap₂ (λ (e : Event) (h : History). e ∷ h) (same_retire c.stream id t j retiring.NotLive test.0) same.1,
        record { rest = []; decided = inr (refl, (refl, sym (verdict_is bad verdict same.0))) },
      )

  at_from : (o : Ownership) (refused : Bool) (earlier : List ℕ) (id : ℕ) (history rest : History) (verdict : LineVerdict)
      (later : History → Given LineOutcome)
      (A : History → Type 0) → ((left : History) → later left ≡ gives (Judged verdict) rest → Takes A left rest)
      → delete_one o c.stream (is_dropped id || is_among earlier id) refused (length earlier) id history later
      ≡ gives (Judged verdict) rest
      → Takes (λ taken. DeletesAt o c is_dropped earlier id taken verdict A) history rest
  at_from ownerships.Formula refused earlier id history rest verdict later A goes is =
      dropped_from (is_dropped id || is_among earlier id) refused (length earlier) id history rest verdict later A (goes history) is
  at_from ownerships.Own refused earlier id history rest verdict later A goes is =
      retired_from earlier id history rest verdict later A goes is
  at_from ownerships.Foreign refused earlier id history rest verdict later A goes is =
      dropped_from (is_dropped id || is_among earlier id) refused (length earlier) id history rest verdict later A (goes history) is
  at_from ownerships.Outside refused earlier id history rest verdict later A goes is =
      let bad = Bad (length earlier) (faults.NotLive id) in
      let same = given (Judged bad) (Judged verdict) history rest is in
      ([], same.1, (refl, sym (verdict_is bad verdict same.0)))

  pub deletion_from : (ids earlier : List ℕ) (refusal : Option ℕ) (history rest : History) (verdict : LineVerdict)
      → judged_deletion c is_dropped refusal earlier ids history ≡ gives (Judged verdict) rest
      → Takes (λ taken. JudgesDeletion c is_dropped earlier ids taken verdict) history rest
  deletion_from [] earlier refusal history rest verdict is =
      let same = given (Judged Good) (Judged verdict) history rest is in
      ([], same.1, (refl, sym (verdict_is Good verdict same.0)))
  deletion_from (id ∷ ids) earlier refusal history rest verdict is =
      at_from (ownership_of c id) (is_refused refusal) earlier id history rest verdict
      (λ left. judged_deletion c is_dropped (past_identity refusal) (earlier ++ id ∷ []) ids left)
      (λ more. JudgesDeletion c is_dropped (earlier ++ id ∷ []) ids more verdict)
      (λ left later. deletion_from ids (earlier ++ id ∷ []) (past_identity refusal) left rest verdict later) is

  -- memory is refused at this identity; or the deletion goes on, after these events
  abbrev Stopping : Ownership → Bool → List ℕ → ℕ → History → History → ℕ → (History → Given LineOutcome)
      → (List ℕ → History → Type 0) → Type 0
  Stopping o gone earlier id history rest deleted later A =
      ((is_shared o ≡ true) × (gone ≡ false) × (history ≡ rest) × (deleted ≡ length earlier))
      ⊎ ((front left : History) × (history ≡ front ++ left) × (later left ≡ gives (OutOfMemory deleted) rest)
      × ((part : List ℕ) (more : History) → A part more → DeletesAt o c is_dropped earlier id (front ++ more) Good (A part)))

  dropped_stops : (gone refused : Bool) (earlier : List ℕ) (id : ℕ) (history rest : History) (deleted : ℕ)
      (later : History → Given LineOutcome)
      → dropped gone refused (length earlier) id history later ≡ gives (OutOfMemory deleted) rest
      → (gone ≡ false) × (((history ≡ rest) × (deleted ≡ length earlier)) ⊎ (later history ≡ gives (OutOfMemory deleted) rest))
  dropped_stops true refused earlier id history rest deleted later is =
      absurd (let same = given (Judged (Bad (length earlier) (faults.NotLive id))) (OutOfMemory deleted) history rest is in
      let e = same.0 in cc)
  dropped_stops false true earlier id history rest deleted later is =
      let same = given (OutOfMemory (length earlier)) (OutOfMemory deleted) history rest is in
      (refl, inl (same.1, sym (count_is (length earlier) deleted same.0)))
  dropped_stops false false earlier id history rest deleted later is = (refl, inr is)

  retired_stops : (earlier : List ℕ) (id : ℕ) (history rest : History) (deleted : ℕ) (later : History → Given LineOutcome)
      (A : List ℕ → History → Type 0)
      → retired c.stream (length earlier) id history later ≡ gives (OutOfMemory deleted) rest
      → (front left : History) × (history ≡ front ++ left) × (later left ≡ gives (OutOfMemory deleted) rest)
      × ((part : List ℕ) (more : History) → A part more → RetiresThen c earlier id (front ++ more) Good (A part))
  retired_stops earlier id [] rest deleted later A is = none_is (OutOfMemory deleted, rest) is
  retired_stops earlier id (events.fetch t j reply ∷ history) rest deleted later A is = none_is (OutOfMemory deleted, rest) is
  retired_stops earlier id (events.publish t j clause reply ∷ history) rest deleted later A is = none_is (OutOfMemory deleted, rest) is
  retired_stops earlier id (events.retire t j retiring.Done ∷ history) rest deleted later A is =
      let test = passed (c.stream == t && id == j) (later history) (OutOfMemory deleted, rest) is in (
        events.retire c.stream id retiring.Done ∷ [],
        history,
        ap (λ (e : Event). e ∷ history) (same_retire c.stream id t j retiring.Done test.0),
        test.1,
        (λ part more holds. record { rest = more; decided = inl (refl, holds) }),
      )
  retired_stops earlier id (events.retire t j retiring.NotLive ∷ history) rest deleted later A is =
      let bad = Bad (length earlier) (faults.NotLive id) in
      let test = passed (c.stream == t && id == j) (gives (Judged bad) history) (OutOfMemory deleted, rest) is in
      absurd (let same = given (Judged bad) (OutOfMemory deleted) history rest test.1 in let e = same.0 in cc)

  shared_stops : (o : Ownership) (gone : Bool) (earlier : List ℕ) (id : ℕ) (history rest : History) (deleted : ℕ)
      (later : History → Given LineOutcome) (A : List ℕ → History → Type 0) → is_shared o ≡ true
      → ((part : List ℕ) (more : History) → gone ≡ false → A part more → DeletesAt o c is_dropped earlier id more Good (A part))
      → (gone ≡ false) × (((history ≡ rest) × (deleted ≡ length earlier)) ⊎ (later history ≡ gives (OutOfMemory deleted) rest))
      → Stopping o gone earlier id history rest deleted later A
  shared_stops o gone earlier id history rest deleted later A shared drops (new, inl stopped) = inl (shared, new, stopped.0, stopped.1)
  shared_stops o gone earlier id history rest deleted later A shared drops (new, inr goes) =
      inr ([], history, refl, goes, (λ part more holds. drops part more new holds))

  at_stops : (o : Ownership) (refused : Bool) (earlier : List ℕ) (id : ℕ) (history rest : History) (deleted : ℕ)
      (later : History → Given LineOutcome) (A : List ℕ → History → Type 0)
      → delete_one o c.stream (is_dropped id || is_among earlier id) refused (length earlier) id history later
      ≡ gives (OutOfMemory deleted) rest
      → Stopping o (is_dropped id || is_among earlier id) earlier id history rest deleted later A
  at_stops ownerships.Formula refused earlier id history rest deleted later A is =
      shared_stops ownerships.Formula (is_dropped id || is_among earlier id) earlier id history rest deleted later A refl
      (λ part more new holds. inr (new, holds))
      (dropped_stops (is_dropped id || is_among earlier id) refused earlier id history rest deleted later is)
  at_stops ownerships.Own refused earlier id history rest deleted later A is =
      inr (retired_stops earlier id history rest deleted later A is)
  at_stops ownerships.Foreign refused earlier id history rest deleted later A is =
      shared_stops ownerships.Foreign (is_dropped id || is_among earlier id) earlier id history rest deleted later A refl
      (λ part more new holds. inr (new, holds))
      (dropped_stops (is_dropped id || is_among earlier id) refused earlier id history rest deleted later is)
  at_stops ownerships.Outside refused earlier id history rest deleted later A is =
      absurd (let same = given (Judged (Bad (length earlier) (faults.NotLive id))) (OutOfMemory deleted) history rest is in
      let e = same.0 in cc)

  -- the rest of a deletion stops at its first identity, or later
  stops_after : (id : ℕ) (ids earlier : List ℕ) (history rest : History) (deleted : ℕ) (later : History → Given LineOutcome)
      → ((left : History) → later left ≡ gives (OutOfMemory deleted) rest
      → Takes (λ taken. StopsAfter (earlier ++ id ∷ []) ids taken deleted) left rest)
      → Stopping (ownership_of c id) (is_dropped id || is_among earlier id) earlier id history rest deleted later
      (λ part more. JudgesDeletion c is_dropped (earlier ++ id ∷ []) part more Good)
      → Takes (λ taken. StopsAfter earlier (id ∷ ids) taken deleted) history rest
  stops_after id ids earlier history rest deleted later goes (inl (shared, new, is, count)) = (
    [],
    is,
    record {
      more = [];
      id = id;
      later = ids;
      identities = refl;
      before = (refl, refl);
      shared = shared;
      new = ap (λ l. is_dropped id || is_among l id) (append-nil earlier) ∙ new;
      count = count ∙ ap length (sym (append-nil earlier));
    },
  )
  stops_after id ids earlier history rest deleted later goes (inr (front, left, is, goes_on, drops)) =
      let rest_of = goes left goes_on in
      let stops = rest_of.2 in
      let whole = append_assoc earlier (id ∷ []) stops.more in (
        front ++ rest_of.0,
        is ∙ ap (λ h. front ++ h) rest_of.1 ∙ sym (append_assoc front rest_of.0 rest),
        record {
          more = id ∷ stops.more;
          id = stops.id;
          later = stops.later;
          identities = ap (λ l. id ∷ l) stops.identities;
          before = drops stops.more rest_of.0 stops.before;
          shared = stops.shared;
          new = ap (λ l. is_dropped stops.id || is_among l stops.id) (sym whole) ∙ stops.new;
          count = stops.count ∙ ap length whole;
        },
      )

  deletion_stops_on : (ids earlier : List ℕ) (refusal : Option ℕ) (history rest : History) (deleted : ℕ)
      → judged_deletion c is_dropped refusal earlier ids history ≡ gives (OutOfMemory deleted) rest
      → Takes (λ taken. StopsAfter earlier ids taken deleted) history rest
  deletion_stops_on [] earlier refusal history rest deleted is =
      absurd (let same = given (Judged Good) (OutOfMemory deleted) history rest is in let e = same.0 in cc)
  deletion_stops_on (id ∷ ids) earlier refusal history rest deleted is =
      stops_after id ids earlier history rest deleted
      (λ left. judged_deletion c is_dropped (past_identity refusal) (earlier ++ id ∷ []) ids left)
      (λ left later. deletion_stops_on ids (earlier ++ id ∷ []) (past_identity refusal) left rest deleted later)
      (at_stops (ownership_of c id) (is_refused refusal) earlier id history rest deleted
      (λ left. judged_deletion c is_dropped (past_identity refusal) (earlier ++ id ∷ []) ids left)
      (λ part more. JudgesDeletion c is_dropped (earlier ++ id ∷ []) part more Good) is)

  pub deletion_stops : (ids : List ℕ) (refusal : Option ℕ) (history rest : History) (deleted : ℕ)
      → judged_deletion c is_dropped refusal [] ids history ≡ gives (OutOfMemory deleted) rest
      → Takes (λ taken. (earlier : List ℕ) × StopsDeletion c is_dropped ids taken earlier × (deleted ≡ length earlier)) history rest
  deletion_stops ids refusal history rest deleted is =
      let from = deletion_stops_on ids [] refusal history rest deleted is in
      let stops = from.2 in (
        from.0,
        from.1,
        (
          stops.more,
          record {
            id = stops.id;
            later = stops.later;
            identities = stops.identities;
            before = stops.before;
            shared = stops.shared;
            new = stops.new;
          },
          stops.count,
        ),
      )
