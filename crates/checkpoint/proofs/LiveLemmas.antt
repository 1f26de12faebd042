-- Lemmas about the clauses fetched so far, one identity after the other.
use Rattle.std.proofs.Common.{◌≡◌, ℕ, Bool, true, false, cond, ◌+◌, ◌-◌, ◌≤◌, List, [], ◌∷◌, ◌++◌, map, length, length-append, take, refl}
use Rattle.std.proofs.Common.{sym, ap, subst, ◌∙◌, ◌⊎◌, inl, inr, arith}
use Rattle.std.specs.List.{AllByRecursion}
use Rattle.std.specs.Prelude.{slice_index_or}
use Rattle.std.proofs.lemmas.Bool.{cases_lt}
use Rattle.std.proofs.lemmas.List.{append_assoc, append-nil, map-append, map_more, take_all}
use Rattle.lrup_model.specs.Clause.{Clause}
use Rattle.lrup_model.specs.Entailment.{IsDerived}
use Rattle.lrup_model.specs.Event.{History, Reply, fetch, vacant, live, retired}
use Rattle.lrup_model.specs.Formula.{Cnf, clause_at}
use Rattle.lrup_model.specs.lemmas.ListLemmas.{All-append, All-map}
use Rattle.lrup_model.specs.lemmas.PassLemmas.{known_stays, known_follows}
use Rattle.lrup_model.specs.CallerView.{CallerView, Caller, ClipValue, CallerStep, IsKnown, AllFollow, clip_clause}
use Rattle.std.specs.Prelude.{Result, Ok, Err, IsErr, IfOk}
use Rattle.lrup_model.specs.Replies.{AnswersFormula, reply_of}
use Rattle.lrup_model.specs.declared.clause_map.Fetched.{Fetched}
use Rattle.lrup_model.specs.declared.clause_map.Fetched.TheVariants as fetched
use Rattle.checkpoint.specs.Live.{Entry, clauses_of, entries_of, entry_of, fetches, wanted_of, wanted_clauses}

fetches-push : (s id : ℕ) (replies : List Reply) (r : Reply)
    → fetches s id (replies ++ r ∷ []) ≡ fetches s id replies ++ fetch s (id + length replies) r ∷ []
fetches-push s id [] r = let same : id ≡ id + 0 = omega arith in ap (λ n. fetch s n r ∷ []) same
fetches-push s id (q ∷ replies) r =
    let same : id + 1 + length replies ≡ id + length (q ∷ replies) = omega arith in
    ap (λ es. fetch s id q ∷ es) (fetches-push s (id + 1) replies r ∙ ap (λ n. fetches s (id + 1) replies ++ fetch s n r ∷ []) same)

-- prepending an element under a condition and appending a list can be done in either order
cond-append : (b : Bool) (e : Entry) (xs ys : List Entry) → cond b (e ∷ (xs ++ ys)) (xs ++ ys) ≡ cond b (e ∷ xs) xs ++ ys
cond-append true e xs ys = refl
cond-append false e xs ys = refl

wanted_of-append : (wants : ℕ → Bool) (id : ℕ) (xs ys : List Reply)
    → wanted_of wants id (xs ++ ys) ≡ wanted_of wants id xs ++ wanted_of wants (id + length xs) ys
wanted_of-append wants id [] ys = let same : id ≡ id + 0 = omega arith in ap (λ n. wanted_of wants n ys) same
wanted_of-append wants id (x ∷ xs) ys =
    at x (wanted_of-append wants (id + 1) xs ys ∙ ap (λ n. wanted_of wants (id + 1) xs ++ wanted_of wants n ys) same)
  where
    same : id + 1 + length xs ≡ id + length (x ∷ xs)
    same = omega arith

    at : (r : Reply) → wanted_of wants (id + 1) (xs ++ ys) ≡ wanted_of wants (id + 1) xs ++ wanted_of wants (id + length (x ∷ xs)) ys
        → wanted_of wants id (r ∷ xs ++ ys) ≡ wanted_of wants id (r ∷ xs) ++ wanted_of wants (id + length (x ∷ xs)) ys
    at vacant after = after
    at (live c) after =
        ap (λ (es : List Entry). cond (wants id) (record { id = id; clause = c } ∷ es) es) after
        ∙ cond-append (wants id) (record { id = id; clause = c }) (wanted_of wants (id + 1) xs) (wanted_of wants (id + length (x ∷ xs)) ys)
    at retired after = after

-- known clips stay known, with the same clauses
stay_known : (a b : CallerView) (es : History) (clips : List ClipValue) → CallerStep a b es → AllByRecursion (IsKnown a) clips
    → AllByRecursion (IsKnown b) clips
stay_known a b es clips step known = All-map (IsKnown a) (IsKnown b) (λ clip is. (known_stays a b es clip step is).0) clips known

stay_same : (a b : CallerView) (es : History) (clips : List ClipValue) → CallerStep a b es → AllByRecursion (IsKnown a) clips
    → entries_of b clips ≡ entries_of a clips
stay_same a b es [] step known = refl
stay_same a b es (clip ∷ clips) step known =
    ap (λ (c : Clause). record { id = clip.id; clause = c } ∷ entries_of b clips) (known_stays a b es clip step known.0).1
    ∙ ap (λ (cs : List Entry). entry_of a clip ∷ cs) (stay_same a b es clips step known.1)

-- the clauses of known clips are derived from the formula
all_follow : (p : CallerView) (clips : List ClipValue) → AllFollow p → AllByRecursion (IsKnown p) clips
    → AllByRecursion (IsDerived p.caller.formula) (clauses_of (entries_of p clips))
all_follow p [] follow known = tt
all_follow p (clip ∷ clips) follow known = (known_follows p clip follow known.0, all_follow p clips follow known.1)

-- those of the formula's clauses that have been fetched are live
pub record First (f : Cnf) (count : ℕ) (last : ℕ) (replies : List Reply) : Type 0 where
  pub more : List Reply
  pub is : replies ≡ map live (take last f.clauses) ++ more
  pub none : last ≤ count → more ≡ []

first_next : (f : Cnf) (count last : ℕ) (replies : List Reply) (r : Reply) → count ≡ length f.clauses
    → (last + 1 ≤ count → r ≡ live (clause_at f (last + 1))) → First f count last replies → First f count (last + 1) (replies ++ r ∷ [])
first_next f count last replies r all answer first =
    elim (cases_lt last count) [
      | inl within ↦
          let next : last + 1 - 1 ≡ last = omega arith in
          let clause : r ≡ live (slice_index_or f.clauses last []) = answer (omega arith)
          ∙ ap (λ n. live (slice_index_or f.clauses n [])) next in
          record {
            more = [];
            is = ap (λ (rs : List Reply). rs ++ r ∷ []) (first.is ∙ ap (λ (rs : List Reply). map live (take last f.clauses) ++ rs)
                (first.none (omega arith)) ∙ append-nil (map live (take last f.clauses)))
                ∙ ap (λ (q : Reply). map live (take last f.clauses) ++ q ∷ []) clause
                ∙ sym (map_more live f.clauses last [] (omega arith))
                ∙ sym (append-nil (map live (take (last + 1) f.clauses)));
            none = λ _. refl;
          }
      | inr above ↦
          let whole = take_all last f.clauses (omega arith) in
          let whole' = take_all (last + 1) f.clauses (omega arith) in
          record {
            more = first.more ++ r ∷ [];
            is = ap (λ (rs : List Reply). rs ++ r ∷ []) first.is
                ∙ ap (λ (cs : List Clause). (map live cs ++ first.more) ++ r ∷ []) (whole ∙ sym whole')
                ∙ append_assoc (map live (take (last + 1) f.clauses)) first.more (r ∷ []);
            none = λ low. absurd (omega arith);
          }
    ]

-- in the end, the live clauses that are wanted begin with all wanted clauses of the formula
pub first_whole : (wants : ℕ → Bool) (f : Cnf) (count last : ℕ) (replies : List Reply) → count ≡ length f.clauses → count ≤ last
    → First f count last replies → (more : List Entry) × (wanted_of wants 1 replies ≡ wanted_clauses wants f.clauses ++ more)
first_whole wants f count last replies all within first = (
  wanted_of wants (1 + length (map live f.clauses)) first.more,
  ap (wanted_of wants 1) (first.is ∙ ap (λ (cs : List Clause). map live cs ++ first.more) (take_all last f.clauses (omega arith)))
      ∙ wanted_of-append wants 1 (map live f.clauses) first.more,
)

-- fetching the identities 1 to `last` leads from one view to the other, and gives these clips
pub record Found (wants : ℕ → Bool) (a b : CallerView) (moves : History → Type 0) (last : ℕ) (clips : List ClipValue) : Type 0 where
  pub replies : List Reply
  pub moved : moves (fetches a.caller.stream 1 replies)
  pub count : length replies ≡ last
  pub entries : entries_of b clips ≡ wanted_of wants 1 replies
  pub known : AllByRecursion (IsKnown b) clips
  pub follow : AllByRecursion (IsDerived a.caller.formula) (clauses_of (entries_of b clips))
  pub caller : b.caller ≡ a.caller
  pub first : a.caller.layout.clauses ≡ length a.caller.formula.clauses → First a.caller.formula a.caller.layout.clauses last replies

-- before the first fetch, there are no clips
pub found_none : (wants : ℕ → Bool) (a : CallerView) (moves : History → Type 0) → moves [] → Found wants a a moves 0 []
found_none wants a moves none = record {
  replies = [];
  moved = none;
  count = refl;
  entries = refl;
  known = tt;
  follow = tt;
  caller = refl;
  first = λ all. record { more = []; is = refl; none = λ _. refl };
}

-- fetching the next identity adds the clips that are kept for it
pub found_next : (wants : ℕ → Bool) (a b c : CallerView) (before after : History → Type 0) (count : ℕ)
    (clips fresh all : List ClipValue) (r : Reply)
    → Found wants a b before count clips
    → ((es : History) → before es → after (es ++ fetch b.caller.stream (count + 1) r ∷ []))
    → CallerStep b c (fetch b.caller.stream (count + 1) r ∷ [])
    → AnswersFormula b (count + 1) r
    → AllFollow c → AllByRecursion (IsKnown c) fresh → entries_of c fresh ≡ wanted_of wants (count + 1) (r ∷ []) → all ≡ clips ++ fresh
    → Found wants a c after (count + 1) all
found_next wants a b c before after count clips fresh all r found then step formula follow known entries is =
    let caller : c.caller ≡ a.caller = step.caller ∙ found.caller in
    let at : 1 + length found.replies ≡ count + 1 = omega (arith, found.count) in
    let events = fetches-push a.caller.stream 1 found.replies r
    ∙ ap (λ n. fetches a.caller.stream 1 found.replies ++ fetch a.caller.stream n r ∷ []) at
    ∙ ap (λ (k : Caller). fetches a.caller.stream 1 found.replies ++ fetch k.stream (count + 1) r ∷ []) (sym found.caller) in
    let all_known : AllByRecursion (IsKnown c) all =
    subst (AllByRecursion (IsKnown c)) (sym is)
    (All-append (IsKnown c) clips fresh (stay_known b c (fetch b.caller.stream (count + 1) r ∷ []) clips step found.known) known) in
    record {
      replies = found.replies ++ r ∷ [];
      moved = subst after (sym events) (then (fetches a.caller.stream 1 found.replies) found.moved);
      count = omega (arith, length-append found.replies (r ∷ []), found.count);
      entries = ap (entries_of c) is ∙ map-append (entry_of c) clips fresh
          ∙ ap (λ (es : List Entry). es ++ entries_of c fresh)
          (stay_same b c (fetch b.caller.stream (count + 1) r ∷ []) clips step found.known ∙ found.entries)
          ∙ ap (λ (es : List Entry). wanted_of wants 1 found.replies ++ es) (entries ∙ ap (λ n. wanted_of wants n (r ∷ [])) (sym at))
          ∙ sym (wanted_of-append wants 1 found.replies (r ∷ []));
      known = all_known;
      follow = subst (λ (k : Caller). AllByRecursion (IsDerived k.formula) (clauses_of (entries_of c all))) caller
          (all_follow c all follow all_known);
      caller = caller;
      first = λ count_is. first_next a.caller.formula a.caller.layout.clauses count found.replies r count_is
          (λ within. subst (λ (k : Caller). r ≡ live (clause_at k.formula (count + 1))) found.caller
          (formula (omega arith) (subst (λ (k : Caller). count + 1 ≤ k.layout.clauses) (sym found.caller) within)))
          (found.first count_is);
    }

-- a live and wanted clause is kept
pub kept_wanted : (wants : ℕ → Bool) (p : CallerView) (id : ℕ) (clip : ClipValue) → wants id ≡ true → clip.id ≡ id
    → entries_of p (clip ∷ []) ≡ wanted_of wants id (live (clip_clause p clip) ∷ [])
kept_wanted wants p id clip wanted same = rw wanted (ap (λ n. record { id = n; clause = clip_clause p clip } ∷ []) same)

-- an unwanted clause is left out
pub kept_unwanted : (wants : ℕ → Bool) (p : CallerView) (id : ℕ) (clip : ClipValue) → wants id ≡ false
    → wanted_of wants id (live (clip_clause p clip) ∷ []) ≡ []
kept_unwanted wants p id clip unwanted = rw unwanted refl

-- nothing is kept for an identity without a live clause
pub kept_none : (wants : ℕ → Bool) (p : CallerView) (id : ℕ) (r : Fetched) → (r ≡ fetched.Vacant) ⊎ (r ≡ fetched.Retired)
    → wanted_of wants id (reply_of p r ∷ []) ≡ []
kept_none wants p id r (inl vacant_is) = rw vacant_is refl
kept_none wants p id r (inr retired_is) = rw retired_is refl

-- an error satisfies every `IfOk` (used where a `?` returns the error)
pub no_ok : {T E : Type 0} (r : Result T E) (P : T → Type 0) → IsErr r → IfOk r P
no_ok (Ok x) P h = cc
no_ok (Err e) P h = tt
