-- Lemmas about where the clauses of a history are stored.
use Rattle.std.proofs.Common.{◌≡◌, ℕ, ◌+◌, ◌-◌, ◌*◌, ◌<◌, ◌≤◌, ◌⊎◌, Bool, true, false, cond, eqb, zero, suc, List, [], ◌∷◌, ◌++◌, length}
use Rattle.std.proofs.Common.{get_or, Option, None, Some, refl, sym, ap, subst, ◌∙◌, inl, inr, arith, append-nil, append_assoc, eq-eqb}
use Rattle.std.proofs.Common.{ne_eqb}
use Rattle.std.specs.List.{sum_by, AllByRecursion}
use Rattle.std.proofs.lemmas.Bool.{cases_eq, cases_lt, cond-true, cond-false}
use Rattle.std.proofs.lemmas.List.Sums.{sum_by-cons, sum_by-append, sum_by-le-sum_by}
use Rattle.lrup_model.specs.Clause.{Clause}
use Rattle.lrup_model.specs.Formula.{Cnf, IsCnf, IsFormulaClause, clause_at}
use Rattle.std.proofs.Math.Nat.{mul-le-mul_right}
use Rattle.lrup_model.specs.Layout.{LayoutValue, Fits, IsStream, last_identity, row_words}
use Rattle.lrup_model.specs.Event as events
use Rattle.lrup_model.specs.Event.{Event, History, own, spent, stream_of, size_of}
use Rattle.lrup_model.specs.State.{State, Slot, absent, live, retired, retire_slot, opening, after, run, state, Answers}
use Rattle.lrup_model.specs.History.{LegalFrom, IsLegal}
use Rattle.lrup_model.specs.CallerView.{StoredClause, KeepsSpelt}
use Rattle.lrup_model.specs.Pass.{Spelling, stored_in, IsOncePerIdentity, Spells, IsSpelt}
use Rattle.lrup_model.specs.lemmas.RunningLemmas.{spent-sizes, own-append}
use Rattle.lrup_model.specs.lemmas.HistoryLemmas.{put, put-same, put-other, own-mine, own-own, legal-front, opening-formula}
use Rattle.lrup_model.specs.lemmas.HistoryLemmas.{opening-above, opening-none}
use Rattle.lrup_model.specs.lemmas.OwnerLemmas.{owned}
use Rattle.lrup_model.specs.declared.clause_map.Published.TheVariants as publishing
use Rattle.lrup_model.specs.declared.clause_map.Retired.TheVariants as retiring
use Rattle.idwords.specs.Words.{words_for}
use Rattle.idwords.specs.Spelling.{spelling, clauses_spelling, first_place, words_taken, words_spent, top_after, event_spelling}
use Rattle.idwords.specs.Spelling.{added_spelling, spelling_of, LieWithin}

-- How many words were spent

pub words_spent-append : (s : ℕ) (g h : History) → words_spent s (g ++ h) ≡ words_spent s g + words_spent s h
words_spent-append s g h = ap (sum_by words_taken) (own-append g h s) ∙ sum_by-append words_taken (own g s) (own h s)

pub words_spent_one : (s : ℕ) (e : Event) → stream_of e ≡ s → words_spent s (e ∷ []) ≡ words_taken e
words_spent_one s e is = ap (sum_by words_taken) (own-mine e [] s is) ∙ omega (arith, sum_by-cons words_taken e [])

-- a stream's own calls spent as many words as the stream did in the whole history
pub words_spent-own : (log mine : History) (s : ℕ) → own log s ≡ mine → words_spent s mine ≡ words_spent s log
words_spent-own log mine s all = ap (λ (h : History). words_spent s h) (sym all) ∙ ap (sum_by words_taken) (own-own log s)

-- a history spends at most as many words as literals
pub words_within : (s : ℕ) (h : History) → words_spent s h ≤ spent s h
words_within s h = omega (arith, spent-sizes s h, sum_by-le-sum_by words_taken size_of (own h s) (λ e. omega arith))

-- One history after another

pub added-append : (p : LayoutValue) (b g h : History) → added_spelling p b (g ++ h) ≡ added_spelling p b g ++ added_spelling p (b ++ g) h
added-append p b [] h = ap (λ (x : History). added_spelling p x h) (sym (append-nil b))
added-append p b (e ∷ g) h =
    let first : List Spelling = event_spelling p b e in
    let mid : List Spelling = added_spelling p (b ++ e ∷ []) g in
    ap (λ (xs : List Spelling). first ++ xs) (added-append p (b ++ e ∷ []) g h)
    ∙ sym (append_assoc first mid (added_spelling p (b ++ e ∷ [] ++ g) h))
    ∙ ap (λ (x : History). first ++ mid ++ added_spelling p x h) (append_assoc b (e ∷ []) g)

pub spelling-append : (f : Cnf) (p : LayoutValue) (g h : History) → spelling_of f p (g ++ h) ≡ spelling_of f p g ++ added_spelling p g h
spelling-append f p g h =
    let front : List Spelling = clauses_spelling 1 (1 + last_identity p) f.clauses in
    ap (λ (xs : List Spelling). front ++ xs) (added-append p [] g h)
    ∙ sym (append_assoc front (added_spelling p [] g) (added_spelling p g h))

pub spelling-snoc : (f : Cnf) (p : LayoutValue) (h : History) (e : Event)
    → spelling_of f p (h ++ e ∷ []) ≡ spelling_of f p h ++ event_spelling p h e
spelling-snoc f p h e =
    spelling-append f p h (e ∷ []) ∙ ap (λ (xs : List Spelling). spelling_of f p h ++ xs) (append-nil (event_spelling p h e))

-- What a list stores stays the same when the list grows

past_some : (b : Bool) (a o o' : Option StoredClause) (k : StoredClause) → (o ≡ Some k → o' ≡ Some k) → cond b a o ≡ Some k
    → cond b a o' ≡ Some k
past_some true a o o' k go here = here
past_some false a o o' k go here = go here

pub stored-append_some : (xs ys : List Spelling) (id : ℕ) (k : StoredClause) → stored_in xs id ≡ Some k → stored_in (xs ++ ys) id ≡ Some k
stored-append_some [] ys id k here = absurd (cc)
stored-append_some (x ∷ xs) ys id k here =
    past_some (eqb x.id id) (Some x.stored) (stored_in xs id) (stored_in (xs ++ ys) id) k (stored-append_some xs ys id k) here

not_some : (b : Bool) (a : StoredClause) (o : Option StoredClause) → cond b (Some a) o ≡ None → (b ≡ false) × (o ≡ None)
not_some true a o here = absurd (cc)
not_some false a o here = (refl, here)

pub stored-append_none : (xs ys : List Spelling) (id : ℕ) → stored_in xs id ≡ None → stored_in (xs ++ ys) id ≡ stored_in ys id
stored-append_none [] ys id none = refl
stored-append_none (x ∷ xs) ys id none =
    let threads = not_some (eqb x.id id) x.stored (stored_in xs id) none in
    cond-false (eqb x.id id) (Some x.stored) (stored_in (xs ++ ys) id) threads.0 ∙ stored-append_none xs ys id threads.1

pub keeps_spelt : (f : Cnf) (p : LayoutValue) (g h : History)
    → KeepsSpelt (stored_in (spelling_of f p g)) (stored_in (spelling_of f p (g ++ h)))
keeps_spelt f p g h id stored here =
    ap (λ (xs : List Spelling). stored_in xs id) (spelling-append f p g h)
    ∙ stored-append_some (spelling_of f p g) (added_spelling p g h) id stored here

pub stored_one : (x : Spelling) (id : ℕ) → id ≡ x.id → stored_in (x ∷ []) id ≡ Some x.stored
stored_one x id same = cond-true (eqb x.id id) (Some x.stored) None (eq-eqb x.id id (sym same))

stored_other : (x : Spelling) (id : ℕ) → (id ≡ x.id → ⊥) → stored_in (x ∷ []) id ≡ None
stored_other x id other = cond-false (eqb x.id id) (Some x.stored) None (ne_eqb x.id id (λ same. other (sym same)))

once-snoc : (xs : List Spelling) (x : Spelling) → IsOncePerIdentity xs → stored_in xs x.id ≡ None → IsOncePerIdentity (xs ++ x ∷ [])
once-snoc [] x once none = (refl, tt)
once-snoc (y ∷ ys) x once none =
    let threads = not_some (eqb y.id x.id) y.stored (stored_in ys x.id) none in
    let apart : y.id ≡ x.id → ⊥ = λ same. absurd (let yes : eqb y.id x.id ≡ true = eq-eqb y.id x.id same in cc) in (
      stored-append_none ys (x ∷ []) y.id once.0 ∙ stored_other x y.id apart,
      once-snoc ys x once.1 threads.1,
    )

-- The clauses of the map are what is stored

-- each slot's clause is stored exactly once
pub record SpellsState (m : State) (xs : List Spelling) : Type 0 where
  pub once : IsOncePerIdentity xs
  pub slots : (id : ℕ) → Spells (m id) (stored_in xs id)

pub spells_absent : (slot : Slot) (o : Option StoredClause) → slot ≡ absent → Spells slot o → o ≡ None
spells_absent absent None nothing spells = refl
spells_absent absent (Some stored) nothing spells = absurd spells
spells_absent (live c) o nothing spells = absurd (cc)
spells_absent (retired c) o nothing spells = absurd (cc)

spells_none : (slot : Slot) (o : Option StoredClause) → o ≡ None → Spells slot o → slot ≡ absent
spells_none absent o none spells = refl
spells_none (live c) None none spells = absurd spells
spells_none (live c) (Some stored) none spells = absurd (cc)
spells_none (retired c) None none spells = absurd spells
spells_none (retired c) (Some stored) none spells = absurd (cc)

spells_retired : (slot : Slot) (o : Option StoredClause) → Spells slot o → Spells (retire_slot slot) o
spells_retired absent o spells = spells
spells_retired (live c) None spells = spells
spells_retired (live c) (Some stored) spells = spells
spells_retired (retired c) o spells = spells

same_list : (m : State) (xs : List Spelling) → SpellsState m xs → SpellsState m (xs ++ [])
same_list m xs spells = subst (λ (ys : List Spelling). SpellsState m ys) (sym (append-nil xs)) spells

pub stored_beside : (xs : List Spelling) (x : Spelling) (j : ℕ) (o : Option StoredClause) → stored_in xs j ≡ o → (j ≡ x.id → ⊥)
    → stored_in (xs ++ x ∷ []) j ≡ o
stored_beside xs x j None here other = stored-append_none xs (x ∷ []) j here ∙ stored_other x j other
stored_beside xs x j (Some k) here other = stored-append_some xs (x ∷ []) j k here

spells_event : (p : LayoutValue) (b : History) (m : State) (xs : List Spelling) (e : Event) → SpellsState m xs → Answers m e
    → SpellsState (after m e) (xs ++ event_spelling p b e)
spells_event p b m xs (events.publish s id c publishing.Done) spells answers =
    let x : Spelling = spelling id (top_after p s b) c in
    let none : stored_in xs id ≡ None = spells_absent (m id) (stored_in xs id) answers (spells.slots id) in
    record {
      once = once-snoc xs x spells.once none;
      slots = λ j. elim (cases_eq j id) [
        | inl same ↦
            let there : stored_in (xs ++ x ∷ []) j ≡ Some x.stored =
            stored-append_none xs (x ∷ []) j (rw same none) ∙ stored_one x j same in
            let slot : put m id (live c) j ≡ live c = put-same m id (live c) j same in
            rw (slot, there) refl
        | inr other ↦
            let slot : put m id (live c) j ≡ m j = put-other m id (live c) j other in
            let there : stored_in (xs ++ x ∷ []) j ≡ stored_in xs j = stored_beside xs x j (stored_in xs j) refl other in
            rw (slot, there) (spells.slots j)
      ];
    }
spells_event p b m xs (events.retire s id retiring.Done) spells answers =
    same_list (put m id (retire_slot (m id))) xs (record {
      once = spells.once;
      slots = λ j. elim (cases_eq j id) [
        | inl same ↦
            let slot : put m id (retire_slot (m id)) j ≡ retire_slot (m j) = put-same m id (retire_slot (m id)) j same
            ∙ ap (λ (k : ℕ). retire_slot (m k)) (sym same) in
            subst (λ (y : Slot). Spells y (stored_in xs j)) (sym slot) (spells_retired (m j) (stored_in xs j) (spells.slots j))
        | inr other ↦ subst (λ (y : Slot). Spells y (stored_in xs j)) (sym (put-other m id (retire_slot (m id)) j other)) (spells.slots j)
      ];
    })
spells_event p b m xs _ spells answers = same_list m xs spells

spells_run : (f : Cnf) (p : LayoutValue) (b : History) (m : State) (xs : List Spelling) (h : History) → SpellsState m xs → LegalFrom f p m h
    → SpellsState (run m h) (xs ++ added_spelling p b h)
spells_run f p b m xs [] spells legal = same_list m xs spells
spells_run f p b m xs (e ∷ h) spells legal =
    let one : SpellsState (after m e) (xs ++ event_spelling p b e) = spells_event p b m xs e spells legal.0 in
    let all = spells_run f p (b ++ e ∷ []) (after m e) (xs ++ event_spelling p b e) h one legal.2 in
    rw (append_assoc xs (event_spelling p b e) (added_spelling p (b ++ e ∷ []) h)) at all

-- The formula's clauses

clauses_below : (id start : ℕ) (cs : List Clause) (j : ℕ) → j < id → stored_in (clauses_spelling id start cs) j ≡ None
clauses_below id start [] j below = refl
clauses_below id start (c ∷ cs) j below =
    cond-false (eqb id j) (Some (record { start = start; literals = c }))
    (stored_in (clauses_spelling (id + 1) (start + words_for (length c)) cs) j) (ne_eqb id j (λ same. omega arith))
    ∙ clauses_below (id + 1) (start + words_for (length c)) cs j (omega arith)

clauses_above : (id start : ℕ) (cs : List Clause) (j : ℕ) → id + length cs ≤ j → stored_in (clauses_spelling id start cs) j ≡ None
clauses_above id start [] j above = refl
clauses_above id start (c ∷ cs) j above =
    cond-false (eqb id j) (Some (record { start = start; literals = c }))
    (stored_in (clauses_spelling (id + 1) (start + words_for (length c)) cs) j) (ne_eqb id j (λ same. omega arith))
    ∙ clauses_above (id + 1) (start + words_for (length c)) cs j (omega arith)

clauses_at : (id start : ℕ) (cs : List Clause) (k : ℕ) → k < length cs
    → (place : ℕ) × (stored_in (clauses_spelling id start cs) (id + k) ≡ Some (record { start = place; literals = get_or cs k [] }))
clauses_at id start [] k within = absurd (omega arith)
clauses_at id start (c ∷ cs) zero within = (
  start,
  cond-true (eqb id (id + 0)) (Some (record { start = start; literals = c }))
      (stored_in (clauses_spelling (id + 1) (start + words_for (length c)) cs) (id + 0)) (eq-eqb id (id + 0) (omega arith)),
)
clauses_at id start (c ∷ cs) (suc k) within =
    let rest = clauses_at (id + 1) (start + words_for (length c)) cs k (omega arith) in
    let next : id + suc k ≡ id + 1 + k = omega arith in (
      rest.0,
      ap (λ (j : ℕ). stored_in (clauses_spelling id start (c ∷ cs)) j) next
          ∙ cond-false (eqb id (id + 1 + k)) (Some (record { start = start; literals = c })) (stored_in
          (clauses_spelling (id + 1) (start + words_for (length c)) cs) (id + 1 + k)) (ne_eqb id (id + 1 + k) (λ same. omega arith))
          ∙ rest.1,
    )

clauses_once : (id start : ℕ) (cs : List Clause) → IsOncePerIdentity (clauses_spelling id start cs)
clauses_once id start [] = tt
clauses_once id start (c ∷ cs) =
    (clauses_below (id + 1) (start + words_for (length c)) cs id (omega arith), clauses_once (id + 1) (start + words_for (length c)) cs)

spells_opening : (f : Cnf) (start : ℕ) → SpellsState (opening f) (clauses_spelling 1 start f.clauses)
spells_opening f start = record {
  once = clauses_once 1 start f.clauses;
  slots = λ id. elim (cases_lt 0 id) [
    | inl positive ↦ elim (cases_lt (length f.clauses) id) [
      | inl above ↦
          let none : stored_in (clauses_spelling 1 start f.clauses) id ≡ None = clauses_above 1 start f.clauses id (omega arith) in
          rw (opening-above f id above, none) tt
      | inr within ↦
          let at = clauses_at 1 start f.clauses (id - 1) (omega arith) in
          let here : stored_in (clauses_spelling 1 start f.clauses) id ≡ Some (record { start = at.0; literals = clause_at f id }) =
          ap (λ (j : ℕ). stored_in (clauses_spelling 1 start f.clauses) j) (omega arith) ∙ at.1 in
          rw (opening-formula f id positive within, here) refl
    ]
    | inr nil ↦
        let none : stored_in (clauses_spelling 1 start f.clauses) id ≡ None = clauses_below 1 start f.clauses id (omega arith) in
        rw (opening-none f id nil, none) tt
  ];
}

pub spelt : (f : Cnf) (p : LayoutValue) (h : History) → LegalFrom f p (opening f) h → IsSpelt f h (spelling_of f p h)
spelt f p h legal =
    let all =
    spells_run f p [] (opening f) (clauses_spelling 1 (1 + last_identity p) f.clauses) h (spells_opening f (1 + last_identity p)) legal in
    record { once = all.once; slots = all.slots }

-- Inside the row

-- the clause is stored in a stream's room, below the stream's top
pub record LodgedOf (p : LayoutValue) (h : History) (stored : StoredClause) (s : ℕ) : Type 0 where
  pub stream : IsStream p s
  pub first : first_place p s ≤ stored.start
  pub last : stored.start + words_for (length stored.literals) ≤ top_after p s h

pub record LodgedFormula (p : LayoutValue) (stored : StoredClause) : Type 0 where
  pub first : 1 + last_identity p ≤ stored.start
  pub last : stored.start + words_for (length stored.literals) ≤ 1 + last_identity p + p.literals

abbrev pub IsLodged : LayoutValue → History → StoredClause → Type 0
IsLodged p h stored = LodgedFormula p stored ⊎ ((s : ℕ) × LodgedOf p h stored s)

pub either_kept : (b : Bool) (a : StoredClause) (o : Option StoredClause) (k : StoredClause) → cond b (Some a) o ≡ Some k
    → (a ≡ k) ⊎ (o ≡ Some k)
either_kept true a o k here = inl (cc)
either_kept false a o k here = inr here

clauses_lodged : (id start : ℕ) (cs : List Clause) (j : ℕ) (stored : StoredClause)
    → stored_in (clauses_spelling id start cs) j ≡ Some stored
    → (start ≤ stored.start) × (stored.start + words_for (length stored.literals) ≤ start + sum_by length cs)
clauses_lodged id start [] j stored here = absurd (cc)
clauses_lodged id start (c ∷ cs) j stored here =
    let all = sum_by-cons length c cs in
    elim (either_kept (eqb id j) (record {
      start = start;
      literals = c;
    }) (stored_in (clauses_spelling (id + 1) (start + words_for (length c)) cs) j) stored here) [
      | inl same ↦
          let at : start ≡ stored.start = ap (λ (k : StoredClause). k.start) same in
          let len : length c ≡ length stored.literals = ap (λ (k : StoredClause). length k.literals) same in
          (omega arith, omega (arith, all))
      | inr later ↦
          let rest = clauses_lodged (id + 1) (start + words_for (length c)) cs j stored later in
          (omega (arith, rest.0), omega (arith, rest.1, all))
    ]

lodged_on : (p : LayoutValue) (b : History) (e : Event) (h : History) (stored : StoredClause)
    → ((s : ℕ) × LodgedOf p (b ++ e ∷ [] ++ h) stored s)
    → (s : ℕ) × LodgedOf p (b ++ e ∷ h) stored s
lodged_on p b e h stored lodged = subst (λ (g : History). (s : ℕ) × LodgedOf p g stored s) (append_assoc b (e ∷ []) h) lodged

added_lodged : (f : Cnf) (p : LayoutValue) (b : History) (m : State) (h : History) (j : ℕ) (stored : StoredClause) → 0 < p.streams
    → LegalFrom f p m h
    → stored_in (added_spelling p b h) j ≡ Some stored → (s : ℕ) × LodgedOf p (b ++ h) stored s
added_lodged f p b m [] j stored some legal here = absurd (cc)
added_lodged f p b m (events.publish s id c publishing.Done ∷ h) j stored some legal here =
    let e : Event = events.publish s id c publishing.Done in
    let who = owned p s id some legal.1.0 in
    let sum : words_spent s (b ++ e ∷ h) ≡ words_spent s b + words_spent s (e ∷ h) = words_spent-append s b (e ∷ h) in
    let sum' : words_spent s (e ∷ h) ≡ words_spent s (e ∷ []) + words_spent s h = words_spent-append s (e ∷ []) h in
    let one : words_spent s (e ∷ []) ≡ words_for (length c) = words_spent_one s e refl in
    elim (either_kept (eqb id j) (record {
      start = top_after p s b;
      literals = c;
    }) (stored_in (added_spelling p (b ++ e ∷ []) h) j) stored here) [
      | inl same ↦
          let at : top_after p s b ≡ stored.start = ap (λ (k : StoredClause). k.start) same in
          let len : length c ≡ length stored.literals = ap (λ (k : StoredClause). length k.literals) same in
          (s, record { stream = (who.first, who.last); first = omega arith; last = omega arith })
      | inr later ↦ lodged_on p b e h stored (added_lodged f p (b ++ e ∷ []) (after m e) h j stored some legal.2 later)
    ]
added_lodged f p b m (events.fetch s id r ∷ h) j stored some legal here =
    lodged_on p b (events.fetch s id r) h stored (added_lodged f p (b ++ events.fetch s id r ∷ []) m h j stored some legal.2 here)
added_lodged f p b m (events.publish s id c publishing.Taken ∷ h) j stored some legal here =
    let e : Event = events.publish s id c publishing.Taken in
    lodged_on p b e h stored (added_lodged f p (b ++ e ∷ []) m h j stored some legal.2 here)
added_lodged f p b m (events.retire s id r ∷ h) j stored some legal here =
    let e : Event = events.retire s id r in
    lodged_on p b e h stored (added_lodged f p (b ++ e ∷ []) (after m e) h j stored some legal.2 here)

lodged_either : (f : Cnf) (p : LayoutValue) (h : History) (j : ℕ) (stored : StoredClause) → 0 < p.streams → Fits p f
    → LegalFrom f p (opening f) h
    → stored_in (spelling_of f p h) j ≡ Some stored
    → (o : Option StoredClause) → stored_in (clauses_spelling 1 (1 + last_identity p) f.clauses) j ≡ o → IsLodged p h stored
lodged_either f p h j stored some fits legal here None there =
    let front : List Spelling = clauses_spelling 1 (1 + last_identity p) f.clauses in
    inr (added_lodged f p [] (opening f) h j stored some legal (sym (stored-append_none front (added_spelling p [] h) j there) ∙ here))
lodged_either f p h j stored some fits legal here (Some k) there =
    let front : List Spelling = clauses_spelling 1 (1 + last_identity p) f.clauses in
    let same : Some k ≡ Some stored = sym (stored-append_some front (added_spelling p [] h) j k there) ∙ here in
    let at = clauses_lodged 1 (1 + last_identity p) f.clauses j stored (there ∙ same) in
    inl (record { first = at.0; last = omega (arith, at.1, fits.literals) })

-- each stored clause is among the formula's literals, or in a stream's room below the stream's top
pub lodged : (f : Cnf) (p : LayoutValue) (h : History) (j : ℕ) (stored : StoredClause) → 0 < p.streams → Fits p f
    → LegalFrom f p (opening f) h
    → stored_in (spelling_of f p h) j ≡ Some stored → IsLodged p h stored
lodged f p h j stored some fits legal here =
    lodged_either f p h j stored some fits legal here (stored_in (clauses_spelling 1 (1 + last_identity p) f.clauses) j) refl

-- All stored clauses are inside the row

pub lies_within : (f : Cnf) (p : LayoutValue) (h : History) → 0 < p.streams → Fits p f → IsLegal f p h
    → LieWithin (row_words p) (spelling_of f p h)
lies_within f p h some fits legal j stored there =
    elim (lodged f p h j stored some fits legal.events there) [
      | inl formula ↦ omega (arith, formula.last)
      | inr (s, lodging) ↦
          let more : (s - 1 + 1) * p.room ≤ p.streams * p.room =
          mul-le-mul_right p.room (omega (arith, lodging.stream.0, lodging.stream.1)) in
          omega (arith, lodging.last, legal.room s, words_within s h)
    ]

-- The length of a clause fits into an identity's word

clauses_short : (vars id start : ℕ) (cs : List Clause) (j : ℕ) (stored : StoredClause) → AllByRecursion (IsFormulaClause vars) cs
    → stored_in (clauses_spelling id start cs) j ≡ Some stored → length stored.literals < 1048576
clauses_short vars id start [] j stored all here = absurd (cc)
clauses_short vars id start (c ∷ cs) j stored all here =
    elim (either_kept (eqb id j) (record {
      start = start;
      literals = c;
    }) (stored_in (clauses_spelling (id + 1) (start + words_for (length c)) cs) j) stored here) [
      | inl same ↦ let len : length c ≡ length stored.literals = ap (λ (k : StoredClause). length k.literals) same in omega (arith, all.0.1)
      | inr later ↦ clauses_short vars (id + 1) (start + words_for (length c)) cs j stored all.1 later
    ]

added_short : (f : Cnf) (p : LayoutValue) (b : History) (m : State) (h : History) (j : ℕ) (stored : StoredClause) → LegalFrom f p m h
    → stored_in (added_spelling p b h) j ≡ Some stored → length stored.literals < 1048576
added_short f p b m [] j stored legal here = absurd (cc)
added_short f p b m (events.publish s id c publishing.Done ∷ h) j stored legal here =
    let e : Event = events.publish s id c publishing.Done in
    elim (either_kept (eqb id j) (record {
      start = top_after p s b;
      literals = c;
    }) (stored_in (added_spelling p (b ++ e ∷ []) h) j) stored here) [
      | inl same ↦ let len : length c ≡ length stored.literals = ap (λ (k : StoredClause). length k.literals) same in
          omega (arith, legal.1.1.length)
      | inr later ↦ added_short f p (b ++ e ∷ []) (after m e) h j stored legal.2 later
    ]
added_short f p b m (events.fetch s id r ∷ h) j stored legal here =
    added_short f p (b ++ events.fetch s id r ∷ []) m h j stored legal.2 here
added_short f p b m (events.publish s id c publishing.Taken ∷ h) j stored legal here =
    added_short f p (b ++ events.publish s id c publishing.Taken ∷ []) m h j stored legal.2 here
added_short f p b m (events.retire s id r ∷ h) j stored legal here =
    added_short f p (b ++ events.retire s id r ∷ []) (after m (events.retire s id r)) h j stored legal.2 here

short_either : (f : Cnf) (p : LayoutValue) (h : History) (j : ℕ) (stored : StoredClause) → IsCnf f → LegalFrom f p (opening f) h
    → stored_in (spelling_of f p h) j ≡ Some stored
    → (o : Option StoredClause) → stored_in (clauses_spelling 1 (1 + last_identity p) f.clauses) j ≡ o → length stored.literals < 1048576
short_either f p h j stored cnf legal here None there =
    added_short f p [] (opening f) h j stored legal
    (sym (stored-append_none (clauses_spelling 1 (1 + last_identity p) f.clauses) (added_spelling p [] h) j there) ∙ here)
short_either f p h j stored cnf legal here (Some k) there =
    let same : Some k ≡ Some stored =
    sym (stored-append_some (clauses_spelling 1 (1 + last_identity p) f.clauses) (added_spelling p [] h) j k there) ∙ here in
    clauses_short f.vars 1 (1 + last_identity p) f.clauses j stored cnf.clauses (there ∙ same)

pub short : (f : Cnf) (p : LayoutValue) (h : History) (j : ℕ) (stored : StoredClause) → IsCnf f → LegalFrom f p (opening f) h
    → stored_in (spelling_of f p h) j ≡ Some stored → length stored.literals < 1048576
short f p h j stored cnf legal here =
    short_either f p h j stored cnf legal here (stored_in (clauses_spelling 1 (1 + last_identity p) f.clauses) j) refl

-- What is stored for an identity stays the same if events don't change the identity's slot

own_either : (f : Cnf) (p : LayoutValue) (seen more : History) (id : ℕ) → IsSpelt f seen (spelling_of f p seen)
    → IsSpelt f (seen ++ more) (spelling_of f p (seen ++ more))
    → state f (seen ++ more) id ≡ state f seen id → (o : Option StoredClause) → stored_in (spelling_of f p seen) id ≡ o
    → stored_in (spelling_of f p (seen ++ more)) id ≡ o
own_either f p seen more id before later same None here =
    let nothing : state f seen id ≡ absent = spells_none (state f seen id) (stored_in (spelling_of f p seen) id) here (before.slots id) in
    spells_absent (state f (seen ++ more) id) (stored_in (spelling_of f p (seen ++ more)) id) (same ∙ nothing) (later.slots id)
own_either f p seen more id before later same (Some stored) here = keeps_spelt f p seen more id stored here

pub own_stored : (f : Cnf) (p : LayoutValue) (seen more : History) (id : ℕ) → LegalFrom f p (opening f) (seen ++ more)
    → state f (seen ++ more) id ≡ state f seen id → stored_in (spelling_of f p (seen ++ more)) id ≡ stored_in (spelling_of f p seen) id
own_stored f p seen more id legal same =
    own_either f p seen more id (spelt f p seen (legal-front f p (opening f) seen more legal)) (spelt f p (seen ++ more) legal) same
    (stored_in (spelling_of f p seen) id) refl
