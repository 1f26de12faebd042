-- The identities that a stream deletes in a legal history are distinct.
use Rattle.std.proofs.Common.{◌≡◌, ◌<◌, ◌+◌, ◌==◌, ◌&&◌, ◌||◌, ℕ, Bool, true, false, List, [], ◌∷◌, ◌++◌, length, length-append, eqb}
use Rattle.std.proofs.Common.{nat_eq, nat_le, inl, inr, refl, sym, ap, subst, ◌∙◌, arith, append_assoc, append-nil}
use Rattle.std.specs.List.{AllByRecursion, IsDistinct, list_any, sum_by}
use Rattle.std.proofs.lemmas.Bool.{cond-true, cond-false}
use Rattle.std.proofs.lemmas.Bool.Decides.{eqb_tells, leb_tells, Decides-eqb}
use Rattle.std.proofs.lemmas.List.Folds.{list_any-append}
use Rattle.std.proofs.lemmas.List.Sums.{sum_by-append}
use Rattle.lrup_model.specs.Layout.{LayoutValue, last_identity, IsIdentity, owner}
use Rattle.lrup_model.specs.declared.layout.Owner.TheVariants as owners
use Rattle.lrup_model.specs.Event as events
use Rattle.lrup_model.specs.Event.{Event, History}
use Rattle.lrup_model.specs.State.{State, Slot, absent, live, retired, IsLive, IsRetired, retire_slot, after, run}
use Rattle.lrup_model.specs.lemmas.RunningLemmas.{run-append}
use Rattle.lrup_model.specs.declared.clause_map.Retired.TheVariants as retiring
use Rattle.lrup_model.specs.lemmas.EntryLemmas.{retired_now}
use Rattle.lrup_text.specs.Lines.{StreamLine, Addition, Deletion, Import}
use Rattle.stream_check.specs.declared.fault.Fault.{Fault}
use Rattle.stream_check.specs.declared.fault.Fault.TheVariants as faults
use Rattle.stream_check.specs.declared.params.Ownership.{Ownership}
use Rattle.stream_check.specs.declared.params.Ownership.TheVariants as ownerships
use Rattle.stream_check.specs.StreamParams.{StreamParams, ownership_of, is_shared}
use Rattle.stream_check.specs.StreamContext.{context_of, is_among, deleted_by}
use Rattle.stream_check.specs.Verdicts.{LineVerdict, Good, Bad}
use Rattle.stream_check.specs.Deletions.{DeletesAt, JudgesDeletion}
use Rattle.stream_check.specs.Judging.{JudgesLine, AreGood, joined}
use Rattle.stream_check.proofs.CountLemmas.{put_same, OwnAnswers, OwnRun, run_retired, run_on, stays_retired}

-- Ownership and identities

pub identity_below : (p : LayoutValue) (id : ℕ) → (owner p id ≡ owners.Outside → ⊥) → IsIdentity p id
identity_below p id inside = elim (eqb_tells id 0) [
  | inl none ↦ absurd (inside (cond-true (nat_eq id 0) owners.Outside _ none.0))
  | inr some ↦
      let positive : 0 < id = omega (arith, some.1) in
      elim (leb_tells id p.clauses) [
        | inl low ↦ (positive, omega (arith, low.1))
        | inr high ↦ elim (leb_tells id (last_identity p)) [
          | inl within ↦ (positive, within.1)
          | inr above ↦
              absurd (inside (cond-false (nat_eq id 0) owners.Outside _ some.0 ∙ cond-false (nat_le id p.clauses) owners.Formula _ high.0
              ∙ cond-false (nat_le id (last_identity p)) _ owners.Outside above.0))
        ]
      ]
]

-- An identity that was taken

-- the identity was taken: it was retired, or it is among the dropped ones
abbrev pub TakenAt : Ownership → State → (ℕ → Bool) → List ℕ → ℕ → Type 0
TakenAt ownerships.Formula n is_dropped earlier id = (is_dropped id || is_among earlier id) ≡ true
TakenAt ownerships.Own n is_dropped earlier id = IsRetired (n id)
TakenAt ownerships.Foreign n is_dropped earlier id = (is_dropped id || is_among earlier id) ≡ true
TakenAt ownerships.Outside n is_dropped earlier id = ⊥

abbrev pub Taken : StreamParams → State → (ℕ → Bool) → List ℕ → ℕ → Type 0
Taken c n is_dropped earlier id = TakenAt (ownership_of c id) n is_dropped earlier id

abbrev pub Apart : List ℕ → Type 0
Apart [] = Unit {0}
Apart (x ∷ xs) = AllByRecursion (λ y. eqb x y ≡ false) xs × Apart xs

pub are_distinct : (xs : List ℕ) → Apart xs → IsDistinct eqb xs
unfolding IsDistinct
are_distinct [] apart = tt
are_distinct (x ∷ xs) apart = (apart.0, are_distinct xs apart.1)

-- the identities taken so far: they are distinct, each was taken, and there are `many` of them
pub record AreTaken (c : StreamParams) (n : State) (is_dropped : ℕ → Bool) (earlier : List ℕ) (many : ℕ) : Type 0 where
  pub ids : List ℕ
  pub apart : Apart ids
  pub taken : AllByRecursion (Taken c n is_dropped earlier) ids
  pub count : length ids ≡ many

all_map : (P Q : ℕ → Type 0) (xs : List ℕ) → ((x : ℕ) → P x → Q x) → AllByRecursion P xs → AllByRecursion Q xs
all_map P Q [] maps all = tt
all_map P Q (x ∷ xs) maps all = (maps x all.0, all_map P Q xs maps all.1)

-- an identity that wasn't taken differs from those that were
fresh : (c : StreamParams) (n : State) (is_dropped : ℕ → Bool) (earlier : List ℕ) (id : ℕ) (ids : List ℕ)
    → ¬ Taken c n is_dropped earlier id
    → AllByRecursion (Taken c n is_dropped earlier) ids → AllByRecursion (λ y. eqb id y ≡ false) ids
fresh c n is_dropped earlier id [] new all = tt
fresh c n is_dropped earlier id (y ∷ ids) new all = elim (eqb_tells id y) [
  | inl same ↦ absurd (new (subst (Taken c n is_dropped earlier) (sym same.1) all.0))
  | inr other ↦ (other.0, fresh c n is_dropped earlier id ids new all.1)
]

or_more : (a b d : Bool) → (a || b) ≡ true → (a || (b || d)) ≡ true
or_more true b d e = refl
or_more false true d e = refl
or_more false false d e = absurd (let f : false ≡ true = e in cc)

or_last : (a b : Bool) → (a || (b || true)) ≡ true
or_last true b = refl
or_last false true = refl
or_last false false = refl

among_more : (earlier : List ℕ) (id y : ℕ) → is_among (earlier ++ id ∷ []) y ≡ (is_among earlier y || ((id == y) || false))
among_more earlier id y = list_any-append (λ j. j == y) earlier (id ∷ [])

dropped_more : (is_dropped : ℕ → Bool) (earlier : List ℕ) (id y : ℕ) → (is_dropped y || is_among earlier y) ≡ true
    → (is_dropped y || is_among (earlier ++ id ∷ []) y) ≡ true
dropped_more is_dropped earlier id y e = ap (λ b. is_dropped y || b) (among_more earlier id y)
    ∙ or_more (is_dropped y) (is_among earlier y) ((id == y) || false) e

dropped_now : (is_dropped : ℕ → Bool) (earlier : List ℕ) (id : ℕ) → (is_dropped id || is_among (earlier ++ id ∷ []) id) ≡ true
dropped_now is_dropped earlier id =
    ap (λ b. is_dropped id || b) (among_more earlier id id)
    ∙ ap (λ b. is_dropped id || (is_among earlier id || (b || false))) ((Decides-eqb id id).1 refl)
    ∙ or_last (is_dropped id) (is_among earlier id)

taken_more : (ownership : Ownership) (n m : State) (is_dropped : ℕ → Bool) (earlier : List ℕ) (id y : ℕ)
    → (IsRetired (n y) → IsRetired (m y))
    → TakenAt ownership n is_dropped earlier y → TakenAt ownership m is_dropped (earlier ++ id ∷ []) y
taken_more ownerships.Formula n m is_dropped earlier id y stays t = dropped_more is_dropped earlier id y t
taken_more ownerships.Own n m is_dropped earlier id y stays t = stays t
taken_more ownerships.Foreign n m is_dropped earlier id y stays t = dropped_more is_dropped earlier id y t
taken_more ownerships.Outside n m is_dropped earlier id y stays t = t

-- one more identity is taken
take_more : (c : StreamParams) (n m : State) (is_dropped : ℕ → Bool) (earlier : List ℕ) (id many : ℕ)
    → ((y : ℕ) → IsRetired (n y) → IsRetired (m y))
    → ¬ Taken c n is_dropped earlier id → Taken c m is_dropped (earlier ++ id ∷ []) id → AreTaken c n is_dropped earlier many
    → AreTaken c m is_dropped (earlier ++ id ∷ []) (many + 1)
take_more c n m is_dropped earlier id many stays new now are = record {
  ids = id ∷ are.ids;
  apart = (fresh c n is_dropped earlier id are.ids new are.taken, are.apart);
  taken = (
    now,
    all_map (Taken c n is_dropped earlier) (Taken c m is_dropped (earlier ++ id ∷ [])) are.ids
        (λ y t. taken_more (ownership_of c y) n m is_dropped earlier id y (stays y) t) are.taken,
  );
  count = omega (arith, are.count);
}

-- What a deletion took

-- a good deletion took all its identities; a bad deletion took those before the fault
abbrev pub Took : StreamParams → State → (ℕ → Bool) → List ℕ → List ℕ → ℕ → History → LineVerdict → Type 0
Took c n is_dropped earlier ids many es Good = AreTaken c (run n es) is_dropped (earlier ++ ids) (many + length ids)
Took c n is_dropped earlier ids many es (Bad deleted fault) =
    (m : State) × (taken : List ℕ) × (all : ℕ) × AreTaken c m is_dropped taken all × (all + length earlier ≡ many + deleted)

took_none : (c : StreamParams) (n : State) (is_dropped : ℕ → Bool) (earlier : List ℕ) (many : ℕ) (es : History) (v : LineVerdict)
    → es ≡ [] → v ≡ Good
    → AreTaken c n is_dropped earlier many → Took c n is_dropped earlier [] many es v
took_none c n is_dropped earlier many es v none good are =
    subst (λ w. Took c n is_dropped earlier [] many es w) (sym good)
    (subst (λ e. AreTaken c (run n e) is_dropped (earlier ++ []) (many + 0)) (sym none)
    (subst (λ e. AreTaken c n is_dropped e (many + 0)) (sym (append-nil earlier))
    (subst (AreTaken c n is_dropped earlier) (omega arith) are)))

took_failed : (c : StreamParams) (n : State) (is_dropped : ℕ → Bool) (earlier ids : List ℕ) (many : ℕ) (es : History) (v : LineVerdict)
    (fault : Fault)
    → v ≡ Bad (length earlier) fault → AreTaken c n is_dropped earlier many → Took c n is_dropped earlier ids many es v
took_failed c n is_dropped earlier ids many es v fault bad are = rw bad (n, earlier, many, are, refl)

-- `Took` after the first identity implies `Took` from that identity on
took_back : (c : StreamParams) (n : State) (is_dropped : ℕ → Bool) (earlier : List ℕ) (id : ℕ) (ids : List ℕ) (many : ℕ) (es : History)
    (v : LineVerdict)
    → Took c n is_dropped (earlier ++ id ∷ []) ids (many + 1) es v → Took c n is_dropped earlier (id ∷ ids) many es v
took_back c n is_dropped earlier id ids many es Good took =
    subst (λ e. AreTaken c (run n es) is_dropped e (many + length (id ∷ ids))) (append_assoc earlier (id ∷ []) ids)
    (subst (AreTaken c (run n es) is_dropped ((earlier ++ id ∷ []) ++ ids)) (omega arith) took)
took_back c n is_dropped earlier id ids many es (Bad deleted fault) took =
    (took.0, took.1, took.2, took.3, omega (arith, took.4, length-append earlier (id ∷ [])))

-- `Took` after the first event implies `Took` from that event on
took_later : (c : StreamParams) (n : State) (is_dropped : ℕ → Bool) (earlier ids : List ℕ) (many : ℕ) (e : Event) (es rest : History)
    (v : LineVerdict)
    → es ≡ e ∷ rest → Took c (after n e) is_dropped earlier ids many rest v → Took c n is_dropped earlier ids many es v
took_later c n is_dropped earlier ids many e es rest Good is took = rw is took
took_later c n is_dropped earlier ids many e es rest (Bad deleted fault) is took = took

live_not_retired : (slot : Slot) → IsLive slot → IsRetired slot → ⊥
live_not_retired absent a b = a
live_not_retired (live d) a b = b
live_not_retired (retired d) a b = a

-- if one of the stream's own identities was live and is retired, it is taken
took_own : (c : StreamParams) (n : State) (is_dropped : ℕ → Bool) (earlier : List ℕ) (id many : ℕ) → ownership_of c id ≡ ownerships.Own
    → OwnAnswers n (events.retire c.stream id retiring.Done)
    → AreTaken c n is_dropped earlier many → AreTaken c (after n (events.retire c.stream id retiring.Done)) is_dropped (earlier ++ id ∷ [])
    (many + 1)
unfolding OwnAnswers
took_own c n is_dropped earlier id many ownership is_live are =
    let e = events.retire c.stream id retiring.Done in
    take_more c n (after n e) is_dropped earlier id many (λ y is. stays_retired n e y is_live is)
    (λ t. live_not_retired (n id) is_live (rw ownership at t))
    (rw (ownership, put_same n id id (retire_slot (n id)) refl) (retired_now (n id) is_live))
    are

took_formula : (c : StreamParams) (n : State) (is_dropped : ℕ → Bool) (earlier : List ℕ) (id many : ℕ)
    → ownership_of c id ≡ ownerships.Formula
    → (is_dropped id || is_among earlier id) ≡ false → AreTaken c n is_dropped earlier many
    → AreTaken c n is_dropped (earlier ++ id ∷ []) (many + 1)
took_formula c n is_dropped earlier id many ownership new are = take_more c n n is_dropped earlier id many (λ y is. is)
    (λ t. let d : (is_dropped id || is_among earlier id) ≡ true = rw ownership at t in
    let f : true ≡ false = sym d ∙ new in cc) (rw ownership (dropped_now is_dropped earlier id)) are

took_foreign : (c : StreamParams) (n : State) (is_dropped : ℕ → Bool) (earlier : List ℕ) (id many : ℕ)
    → ownership_of c id ≡ ownerships.Foreign
    → (is_dropped id || is_among earlier id) ≡ false → AreTaken c n is_dropped earlier many
    → AreTaken c n is_dropped (earlier ++ id ∷ []) (many + 1)
took_foreign c n is_dropped earlier id many ownership new are = take_more c n n is_dropped earlier id many (λ y is. is)
    (λ t. let d : (is_dropped id || is_among earlier id) ≡ true = rw ownership at t in
    let f : true ≡ false = sym d ∙ new in cc) (rw ownership (dropped_now is_dropped earlier id)) are

took_at : (ownership : Ownership) (c : StreamParams) (n : State) (is_dropped : ℕ
    → Bool) (earlier : List ℕ) (id : ℕ) (ids : List ℕ) (many : ℕ)
    (es rest : History) (v : LineVerdict) (A : History → Type 0)
    → ownership_of c id ≡ ownership
    → ((m : State) (left : History) → A left → OwnRun m (left ++ rest) → AreTaken c m is_dropped (earlier ++ id ∷ []) (many + 1)
    → Took c m is_dropped (earlier ++ id ∷ []) ids (many + 1) left v)
    → DeletesAt ownership c is_dropped earlier id es v A → OwnRun n (es ++ rest) → AreTaken c n is_dropped earlier many
    → Took c n is_dropped earlier (id ∷ ids) many es v
unfolding OwnRun
took_at ownerships.Formula c n is_dropped earlier id ids many es rest v A ownership next (inl bad) answers are =
    took_failed c n is_dropped earlier (id ∷ ids) many es v (faults.NotLive id) bad.1.1 are
took_at ownerships.Formula c n is_dropped earlier id ids many es rest v A ownership next (inr good) answers are =
    took_back c n is_dropped earlier id ids many es v
    (next n es good.1 answers (took_formula c n is_dropped earlier id many ownership good.0 are))
took_at ownerships.Foreign c n is_dropped earlier id ids many es rest v A ownership next (inl bad) answers are =
    took_failed c n is_dropped earlier (id ∷ ids) many es v (faults.NotLive id) bad.1.1 are
took_at ownerships.Foreign c n is_dropped earlier id ids many es rest v A ownership next (inr good) answers are =
    took_back c n is_dropped earlier id ids many es v
    (next n es good.1 answers (took_foreign c n is_dropped earlier id many ownership good.0 are))
took_at ownerships.Outside c n is_dropped earlier id ids many es rest v A ownership next at answers are =
    took_failed c n is_dropped earlier (id ∷ ids) many es v (faults.NotLive id) at.1 are
took_at ownerships.Own c n is_dropped earlier id ids many es rest v A ownership next at answers are = elim at.decided [
  | inl good ↦
      let e = events.retire c.stream id retiring.Done in
      let here = subst (λ x. OwnRun n (x ++ rest)) good.0 answers in
      took_back c n is_dropped earlier id ids many es v
      (took_later c n is_dropped (earlier ++ id ∷ []) ids (many + 1) e es at.rest v good.0
      (next (after n e) at.rest good.1 here.1 (took_own c n is_dropped earlier id many ownership here.0 are)))
  | inr bad ↦ took_failed c n is_dropped earlier (id ∷ ids) many es v (faults.NotLive id) bad.1.1 are
]

pub identities_took : (c : StreamParams) (n : State) (is_dropped : ℕ → Bool) (earlier ids : List ℕ) (many : ℕ) (es rest : History)
    (v : LineVerdict)
    → JudgesDeletion c is_dropped earlier ids es v → OwnRun n (es ++ rest) → AreTaken c n is_dropped earlier many
    → Took c n is_dropped earlier ids many es v
identities_took c n is_dropped earlier [] many es rest v judged answers are = took_none c n is_dropped earlier many es v judged.0 judged.1
    are
identities_took c n is_dropped earlier (id ∷ ids) many es rest v judged answers are =
    took_at (ownership_of c id) c n is_dropped earlier id ids many es rest v
    (λ left. JudgesDeletion c is_dropped (earlier ++ id ∷ []) ids left v) refl
    (λ m left k answers are. identities_took c m is_dropped (earlier ++ id ∷ []) ids (many + 1) left rest v k answers are)
    judged answers are

-- What lines took

gone_bool : (s a b : Bool) → s ≡ true → ((s && a) || b) ≡ true → ((s && (a || (b || false))) || false) ≡ true
gone_bool true true b e h = refl
gone_bool true false true e h = refl
gone_bool true false false e h = absurd (let f : false ≡ true = h in cc)
gone_bool false a b e h = absurd (let f : false ≡ true = e in cc)

gone_more : (c : StreamParams) (before : List StreamLine) (line : StreamLine) (y : ℕ) → is_shared (ownership_of c y) ≡ true
    → ((context_of c before).is_dropped y || is_among (deleted_by line) y) ≡ true
    → ((context_of c (before ++ line ∷ [])).is_dropped y || is_among [] y) ≡ true
gone_more c before line y shared e =
    let test : StreamLine → Bool = λ l. is_among (deleted_by l) y in
    ap (λ b. (is_shared (ownership_of c y) && b) || false) (list_any-append test before (line ∷ []))
    ∙ gone_bool (is_shared (ownership_of c y)) (list_any test before) (test line) shared e

taken_line : (ownership : Ownership) (c : StreamParams) (n m : State) (before : List StreamLine) (line : StreamLine) (y : ℕ)
    → ownership_of c y ≡ ownership
    → (IsRetired (n y) → IsRetired (m y))
    → TakenAt ownership n (context_of c before).is_dropped (deleted_by line) y
    → TakenAt ownership m (context_of c (before ++ line ∷ [])).is_dropped [] y
taken_line ownerships.Formula c n m before line y ownership stays t = gone_more c before line y (ap is_shared ownership) t
taken_line ownerships.Own c n m before line y ownership stays t = stays t
taken_line ownerships.Foreign c n m before line y ownership stays t = gone_more c before line y (ap is_shared ownership) t
taken_line ownerships.Outside c n m before line y ownership stays t = t

line_taken : (c : StreamParams) (n m : State) (before : List StreamLine) (line : StreamLine) (many : ℕ)
    → ((y : ℕ) → IsRetired (n y) → IsRetired (m y))
    → AreTaken c n (context_of c before).is_dropped (deleted_by line) many
    → AreTaken c m (context_of c (before ++ line ∷ [])).is_dropped [] many
line_taken c n m before line many stays are = record {
  ids = are.ids;
  apart = are.apart;
  taken =
      all_map (Taken c n (context_of c before).is_dropped (deleted_by line))
      (Taken c m (context_of c (before ++ line ∷ [])).is_dropped []) are.ids
      (λ y t. taken_line (ownership_of c y) c n m before line y refl (stays y) t) are.taken;
  count = are.count;
}

line_took : (c : StreamParams) (n : State) (before : List StreamLine) (line : StreamLine) (many : ℕ) (es rest : History)
    → JudgesLine c (context_of c before) line es Good → OwnRun n (es ++ rest) → AreTaken c n (context_of c before).is_dropped [] many
    → AreTaken c (run n es) (context_of c (before ++ line ∷ [])).is_dropped [] (many + length (deleted_by line))
line_took c n before (Addition id lits hints) many es rest judged answers are =
    subst (AreTaken c (run n es) (context_of c (before ++ Addition id lits hints ∷ [])).is_dropped []) (omega arith)
    (line_taken c n (run n es) before (Addition id lits hints) many (λ y is. run_retired n es rest y answers is) are)
line_took c n before (Import id lits) many es rest judged answers are =
    subst (AreTaken c (run n es) (context_of c (before ++ Import id lits ∷ [])).is_dropped []) (omega arith)
    (line_taken c n (run n es) before (Import id lits) many (λ y is. run_retired n es rest y answers is) are)
line_took c n before (Deletion lead ids) many es rest judged answers are =
    line_taken c (run n es) (run n es) before (Deletion lead ids) (many + length ids) (λ y is. is)
    (identities_took c n (context_of c before).is_dropped [] ids many es rest Good judged answers are)

pub lines_took : (c : StreamParams) (n : State) (before lines : List StreamLine) (blocks : List History) (many : ℕ) (rest : History)
    → AreGood c before lines blocks → OwnRun n (joined blocks ++ rest) → AreTaken c n (context_of c before).is_dropped [] many
    → AreTaken c (run n (joined blocks)) (context_of c (before ++ lines)).is_dropped [] (many + sum_by (λ l. length (deleted_by l)) lines)
lines_took c n before [] [] many rest good answers are =
    subst (λ b. AreTaken c n (context_of c b).is_dropped [] (many + 0)) (sym (append-nil before))
    (subst (AreTaken c n (context_of c before).is_dropped []) (omega arith) are)
lines_took c n before [] (block ∷ blocks) many rest good answers are = absurd good
lines_took c n before (line ∷ lines) [] many rest good answers are = absurd good
lines_took c n before (line ∷ lines) (block ∷ blocks) many rest good answers are =
    let split = subst (OwnRun n) (append_assoc block (joined blocks) rest) answers in
    let one = line_took c n before line many block (joined blocks ++ rest) good.0 split are in
    let later = lines_took c (run n block) (before ++ line ∷ []) lines blocks (many + length (deleted_by line)) rest good.1
    (run_on n block (joined blocks ++ rest) split) one in
    subst (λ m. AreTaken c m (context_of c (before ++ (line ∷ lines))).is_dropped []
    (many + sum_by (λ l. length (deleted_by l)) (line ∷ lines)))
    (sym (run-append n block (joined blocks)))
    (subst (λ b. AreTaken c (run (run n block) (joined blocks)) (context_of c b).is_dropped []
    (many + sum_by (λ l. length (deleted_by l)) (line ∷ lines))) (append_assoc before (line ∷ []) lines)
    (subst (AreTaken c (run (run n block) (joined blocks)) (context_of c ((before ++ line ∷ []) ++ lines)).is_dropped [])
    (omega (arith, sum_by-append (λ l. length (deleted_by l)) (line ∷ []) lines)) later))
