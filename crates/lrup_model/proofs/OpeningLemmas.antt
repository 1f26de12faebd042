-- When the clause map of one thread is opened, it has the formula's clauses and nothing else.
use Rattle.std.proofs.Common.{◌≡◌, ℕ, zero, suc, ℤ, ◌+◌, ◌-◌, ◌*◌, ◌<◌, ◌≤◌, List, [], ◌∷◌, ◌++◌, length, get_or, take, drop, replicate}
use Rattle.std.proofs.Common.{refl, sym, ap, subst, ◌∙◌, inl, inr, arith, length-append, append_assoc}
use Rattle.std.specs.Prelude.{map, sum}
use Rattle.std.specs.List.{sum_by, AllByRecursion}
use Rattle.std.proofs.Math.Path.{fun_ext}
use Rattle.std.proofs.lemmas.List.{take_more, map-append, length-replicate, append-nil}
use Rattle.std.proofs.lemmas.List.Sums.{sum_by-cons, sum_by_more_le}
use Rattle.std.proofs.lemmas.List.Folds.{sum_by-replicate}
use Rattle.std.proofs.lemmas.Bool.{cases_lt}
use Rattle.std.proofs.Math.Seq.{take-append_seam}
use Rattle.lrup_model.specs.Clause.{Clause, IsClause}
use Rattle.lrup_model.specs.Formula.{Cnf, IsCnf, IsFormulaClause, formula_literals, clause_at}
use Rattle.lrup_model.specs.Entailment.{Assignment, Satisfies, SatisfiesAll, Follows}
use Rattle.lrup_model.specs.Layout.{LayoutValue, IsLayout, Fits, last_identity}
use Rattle.lrup_model.specs.State as slots
use Rattle.lrup_model.specs.State.{State, opening}
use Rattle.lrup_model.specs.CallerView.{StoredClause}
use Rattle.lrup_model.specs.Plain as plain
use Rattle.lrup_model.specs.Plain.{PlainSlot, formula_of, plain_state, plain_slot_at, slot_of, clause_of}
use Rattle.lrup_model.specs.internal.PlainInside.{StoresClause, plain_slot_in, plain_of, LiesWithin, IsPlainSound, flat, entries_from}
use Rattle.lrup_model.specs.declared.plain_map.Entry.{Entry}
use Rattle.lrup_model.specs.declared.plain_map.Entry.TheVariants.{Vacant, Live}
use Rattle.lrup_model.proofs.PieceLemmas.{slice_range-append, slice_range-end}
use Rattle.lrup_model.specs.lemmas.HistoryLemmas.{opening-formula, opening-above}

-- The loop that adds the clauses

pub length-flat : (cs : List Clause) → length (flat cs) ≡ sum_by length cs
length-flat [] = refl
length-flat (c ∷ cs) = length-append c (flat cs) ∙ ap (λ n. length c + n) (length-flat cs) ∙ sym (sum_by-cons length c cs)

pub flat-push : (cs : List Clause) (c : Clause) → flat (cs ++ c ∷ []) ≡ flat cs ++ c
flat-push [] c = append-nil c
flat-push (d ∷ cs) c = ap (λ (ls : List ℤ). d ++ ls) (flat-push cs c) ∙ sym (append_assoc d (flat cs) c)

pub entries_from-push : (from : ℕ) (cs : List Clause) (c : Clause)
    → entries_from from (cs ++ c ∷ []) ≡ entries_from from cs ++ Live (from + length (flat cs)) (length c) ∷ []
entries_from-push from [] c = ap (λ n. Live n (length c) ∷ []) (omega arith)
entries_from-push from (d ∷ cs) c =
    let place : from + length d + length (flat cs) ≡ from + length (d ++ flat cs) = omega (arith, length-append d (flat cs)) in
    ap (λ (es : List Entry). Live from (length d) ∷ es)
    (entries_from-push (from + length d) cs c ∙ ap (λ n. entries_from (from + length d) cs ++ Live n (length c) ∷ []) place)

-- with clause i appended, the entries and literals are those of the first i + 1 clauses
pub stored_more : (cs : List Clause) (i : ℕ) (c : Clause) (start : ℕ) (ls more : List ℤ) (es grown first : List Entry) → i < length cs
    → c ≡ get_or cs i [] → ls ≡ flat (take i cs)
    → start ≡ length ls → more ≡ ls ++ c → es ≡ first ++ entries_from 0 (take i cs) → grown ≡ es ++ Live start (length c) ∷ []
    → (grown ≡ first ++ entries_from 0 (take (i + 1) cs)) × (more ≡ flat (take (i + 1) cs))
stored_more cs i c start ls more es grown first within here lits from grows ents new =
    let cut : take (i + 1) cs ≡ take i cs ++ c ∷ [] = take_more cs i [] within ∙ ap (λ (d : Clause). take i cs ++ d ∷ []) (sym here) in
    let place : start ≡ 0 + length (flat (take i cs)) = omega (arith, from, ap length lits) in (
      new ∙ ap (λ (xs : List Entry). xs ++ Live start (length c) ∷ []) ents
          ∙ append_assoc first (entries_from 0 (take i cs)) (Live start (length c) ∷ [])
          ∙ ap (λ (xs : List Entry). first ++ xs) (ap (λ n. entries_from 0 (take i cs) ++ Live n (length c) ∷ []) place
          ∙ sym (entries_from-push 0 (take i cs) c) ∙ ap (entries_from 0) (sym cut)),
      grows ∙ ap (λ (xs : List ℤ). xs ++ c) lits ∙ sym (flat-push (take i cs) c) ∙ ap flat (sym cut),
    )

-- the first i clauses and the next one together have at most as many literals as all clauses
pub stored_fits : (cs : List Clause) (i : ℕ) → i < length cs → length (flat (take i cs)) + length (get_or cs i []) ≤ sum_by length cs
stored_fits cs i within = omega (arith, length-flat (take i cs), sum_by_more_le length cs i [] within)

-- The map of these entries and literals

-- the live entry of a clause inside the list gives a live slot with that clause
entry_is : (front c back : List ℤ)
    → plain_slot_in (front ++ c ++ back) (Live (length front) (length c)) ≡ plain.live (record { start = length front; literals = c })
entry_is front c back =
    let inside : length front + length c ≤ length (front ++ c) = omega (arith, length-append front c) in
    ap (λ (ls : List ℤ). plain.live (record { start = length front; literals = ls }))
    (slice_range-append (front ++ c) back (length front) (length front + length c) (omega arith) inside ∙ slice_range-end front c)

-- what is stored under the formula's identities
plain_slot_from : ℕ → List Clause → List PlainSlot
plain_slot_from from [] = []
plain_slot_from from (c ∷ cs) = plain.live (record { start = from; literals = c }) ∷ plain_slot_from (from + length c) cs

entries_stored : (front : List ℤ) (cs : List Clause)
    → map (plain_slot_in (front ++ flat cs)) (entries_from (length front) cs) ≡ plain_slot_from (length front) cs
unfolding plain_slot_from
entries_stored front [] = refl
entries_stored front (c ∷ cs) =
    let regrouped : front ++ (c ++ flat cs) ≡ front ++ c ++ flat cs = sym (append_assoc front c (flat cs)) in
    let here : plain_slot_in (front ++ (c ++ flat cs)) (Live (length front) (length c)) ≡ plain.live (record {
      start = length front;
      literals = c;
    }) =
    ap (λ (ls : List ℤ). plain_slot_in ls (Live (length front) (length c))) regrouped ∙ entry_is front c (flat cs) in
    let there : map (plain_slot_in (front ++ (c ++ flat cs))) (entries_from (length front + length c) cs)
    ≡ plain_slot_from (length front + length c) cs =
    ap (λ (ls : List ℤ). map (plain_slot_in ls) (entries_from (length front + length c) cs)) regrouped
    ∙ rw (length-append front c) at (entries_stored (front ++ c) cs) in
    cc

clauses_stored : (from : ℕ) (cs : List Clause) → map clause_of (plain_slot_from from cs) ≡ cs
unfolding plain_slot_from
clauses_stored from [] = refl
clauses_stored from (c ∷ cs) = ap (λ (ds : List Clause). c ∷ ds) (clauses_stored (from + length c) cs)

length-plain_slot_from : (from : ℕ) (cs : List Clause) → length (plain_slot_from from cs) ≡ length cs
unfolding plain_slot_from
length-plain_slot_from from [] = refl
length-plain_slot_from from (c ∷ cs) = ap suc (length-plain_slot_from (from + length c) cs)

none_there : (n i : ℕ) → get_or (replicate n plain.vacant) i plain.vacant ≡ plain.vacant
none_there zero i = refl
none_there (suc n) zero = refl
none_there (suc n) (suc i) = none_there n i

-- if i is the index of a clause, the slot at index i has this clause, live
slot_here : (from : ℕ) (cs : List Clause) (n i : ℕ) → i < length cs
    → slot_of (get_or (plain_slot_from from cs ++ replicate n plain.vacant) i plain.vacant) ≡ slots.live (get_or cs i [])
unfolding plain_slot_from
slot_here from [] n i lt = absurd (omega (arith, lt))
slot_here from (c ∷ cs) n zero lt = refl
slot_here from (c ∷ cs) n (suc i) lt = slot_here (from + length c) cs n i (omega (arith, lt))

slot_past : (from : ℕ) (cs : List Clause) (n i : ℕ) → length cs ≤ i
    → slot_of (get_or (plain_slot_from from cs ++ replicate n plain.vacant) i plain.vacant) ≡ slots.absent
unfolding plain_slot_from
slot_past from [] n i le = ap slot_of (none_there n i)
slot_past from (c ∷ cs) n zero le = absurd (omega (arith, le))
slot_past from (c ∷ cs) n (suc i) le = slot_past (from + length c) cs n i (omega (arith, le))

clause_after : (f : Cnf) (i : ℕ) → clause_at f (suc i) ≡ get_or f.clauses i []
clause_after f i =
    let place : suc i - 1 ≡ i = omega arith in
    ap (λ n. get_or f.clauses n []) place

-- each identity has the slot that it has in the opening state
opened_slot : (f : Cnf) (n id : ℕ)
    → slot_of (get_or (plain.vacant ∷ (plain_slot_from 0 f.clauses ++ replicate n plain.vacant)) id plain.vacant) ≡ opening f id
opened_slot f n zero = refl
opened_slot f n (suc i) =
    elim (cases_lt i (length f.clauses)) [
      | inl lt ↦ slot_here 0 f.clauses n i lt ∙ ap slots.live (sym (clause_after f i))
          ∙ sym (opening-formula f (suc i) (omega arith) (omega (arith, lt)))
      | inr le ↦ slot_past 0 f.clauses n i le ∙ sym (opening-above f (suc i) (omega (arith, le)))
    ]

-- The whole map

vacant_stored : (ls : List ℤ) (n : ℕ) → map (plain_slot_in ls) (replicate n Vacant) ≡ replicate n plain.vacant
vacant_stored ls zero = refl
vacant_stored ls (suc n) = ap (λ (xs : List PlainSlot). plain.vacant ∷ xs) (vacant_stored ls n)

-- the entries of an opened map give the slots of the formula's clauses, and vacant slots
opened_entries : (f : Cnf) (n : ℕ) → map (plain_slot_in (flat f.clauses)) (Vacant ∷ (entries_from 0 f.clauses ++ replicate n Vacant))
    ≡ plain.vacant ∷ (plain_slot_from 0 f.clauses ++ replicate n plain.vacant)
opened_entries f n =
    let clauses : map (plain_slot_in (flat f.clauses)) (entries_from 0 f.clauses)
    ≡ plain_slot_from 0 f.clauses = entries_stored [] f.clauses in
    ap (λ (xs : List PlainSlot). plain.vacant ∷ xs)
    (map-append (plain_slot_in (flat f.clauses)) (entries_from 0 f.clauses) (replicate n Vacant)
    ∙ ap (λ (xs : List PlainSlot). xs ++ map (plain_slot_in (flat f.clauses)) (replicate n Vacant)) clauses
    ∙ ap (λ (xs : List PlainSlot). plain_slot_from 0 f.clauses ++ xs) (vacant_stored (flat f.clauses) n))

pub opened_formula : (f : Cnf) (p : LayoutValue) (n : ℕ) (free : List ℕ) → Fits p f
    → formula_of (plain_of p (Vacant ∷ (entries_from 0 f.clauses ++ replicate n Vacant)) (flat f.clauses) free) ≡ f
opened_formula f p n free fits =
    let count : p.clauses ≡ length (plain_slot_from 0 f.clauses) = fits.clauses ∙ sym (length-plain_slot_from 0 f.clauses) in
    let clauses : map clause_of
    (take p.clauses (drop 1 (map (plain_slot_in (flat f.clauses)) (Vacant ∷ (entries_from 0 f.clauses ++ replicate n Vacant)))))
    ≡ f.clauses =
    ap (λ (xs : List PlainSlot). map clause_of (take p.clauses (drop 1 xs))) (opened_entries f n)
    ∙ ap (λ k. map clause_of (take k (plain_slot_from 0 f.clauses ++ replicate n plain.vacant))) count
    ∙ ap (map clause_of) (take-append_seam (plain_slot_from 0 f.clauses) (replicate n plain.vacant))
    ∙ clauses_stored 0 f.clauses in
    ap (λ (cs : List Clause). record { vars = p.vars; clauses = cs }) clauses ∙ ap (λ v. record { vars = v; clauses = f.clauses }) fits.vars

pub opened_state : (f : Cnf) (p : LayoutValue) (n : ℕ) (free : List ℕ)
    → plain_state (plain_of p (Vacant ∷ (entries_from 0 f.clauses ++ replicate n Vacant)) (flat f.clauses) free) ≡ opening f
opened_state f p n free =
    fun_ext (λ id. ap (λ (xs : List PlainSlot). slot_of (get_or xs id plain.vacant)) (opened_entries f n) ∙ opened_slot f n id)

vacant_within : (all n : ℕ) → AllByRecursion (LiesWithin all) (replicate n Vacant)
vacant_within all zero = tt
vacant_within all (suc n) = (tt, vacant_within all n)

entries_within : (from : ℕ) (cs : List Clause) (all n : ℕ) → from + length (flat cs) ≤ all
    → AllByRecursion (LiesWithin all) (entries_from from cs ++ replicate n Vacant)
entries_within from [] all n le = vacant_within all n
entries_within from (c ∷ cs) all n le =
    let size : length (c ++ flat cs) ≡ length c + length (flat cs) = length-append c (flat cs) in
    (omega arith, entries_within (from + length c) cs all n (omega arith))

length-entries_from : (from : ℕ) (cs : List Clause) → length (entries_from from cs) ≡ length cs
length-entries_from from [] = refl
length-entries_from from (c ∷ cs) = ap suc (length-entries_from (from + length c) cs)

-- each clause of the formula follows from it
each_follows : (f : Cnf) (cs : List Clause) → AllByRecursion (IsFormulaClause f.vars) cs
    → ((a : Assignment) → SatisfiesAll a f → AllByRecursion (Satisfies a) cs) → AllByRecursion (λ c. IsClause f.vars c × Follows f c) cs
each_follows f [] h holds = tt
each_follows f (c ∷ cs) h holds = ((h.0.0, record { holds = λ a all. (holds a all).0 }), each_follows f cs h.1 (λ a all. (holds a all).1))

vacant_stores : (f : Cnf) (n : ℕ) → AllByRecursion (StoresClause f) (replicate n plain.vacant)
vacant_stores f zero = tt
vacant_stores f (suc n) = (tt, vacant_stores f n)

clauses_store : (f : Cnf) (from : ℕ) (cs : List Clause) (n : ℕ) → AllByRecursion (λ c. IsClause f.vars c × Follows f c) cs
    → AllByRecursion (StoresClause f) (plain_slot_from from cs ++ replicate n plain.vacant)
unfolding plain_slot_from
clauses_store f from [] n h = vacant_stores f n
clauses_store f from (c ∷ cs) n h = (h.0, clauses_store f (from + length c) cs n h.1)

live_from : (x : PlainSlot) (c : Clause) → slot_of x ≡ slots.live c → (stored : StoredClause) × (x ≡ plain.live stored)
live_from plain.vacant c is = absurd (cc)
live_from (plain.live stored) c is = (stored, refl)
live_from (plain.retired stored) c is = absurd (cc)

pub opened_sound : (f : Cnf) (p : LayoutValue) (n capacity : ℕ) → IsCnf f → IsLayout p → Fits p f → n ≡ last_identity p - length f.clauses
    → formula_literals f + p.streams * p.room ≤ capacity
    → IsPlainSound p (Vacant ∷ (entries_from 0 f.clauses ++ replicate n Vacant)) (flat f.clauses) (replicate p.streams p.room) capacity
opened_sound f p n capacity cnf is fits rest enough =
    let size : length (flat f.clauses) ≡ formula_literals f = length-flat f.clauses in
    let rooms : sum (replicate p.streams p.room) ≡ p.streams * p.room = sum_by-replicate (λ x. x) p.streams p.room in
    let entries : length (entries_from 0 f.clauses ++ replicate n Vacant) ≡ length f.clauses + n =
    length-append (entries_from 0 f.clauses) (replicate n Vacant)
    ∙ ap (λ k. k + length (replicate n Vacant)) (length-entries_from 0 f.clauses)
    ∙ ap (λ k. length f.clauses + k) (length-replicate n Vacant) in
    record {
      limits = is;
      count = omega (arith, fits.clauses);
      streams = length-replicate p.streams p.room;
      within = (tt, entries_within 0 f.clauses (length (flat f.clauses)) n (omega arith));
      reserved = omega arith;
      small = omega (arith, is.row, fits.literals);
      formula = λ id positive within.
          live_from
          (plain_slot_at
          (plain_of p (Vacant ∷ (entries_from 0 f.clauses ++ replicate n Vacant)) (flat f.clauses) (replicate p.streams p.room))
          id) (clause_at f id)
          (ap (λ (m : State). m id) (opened_state f p n (replicate p.streams p.room))
          ∙ opening-formula f id positive (omega (arith, within, fits.clauses)));
      clauses = subst (λ (g : Cnf). AllByRecursion (StoresClause g)
          (map (plain_slot_in (flat f.clauses)) (Vacant ∷ (entries_from 0 f.clauses ++ replicate n Vacant))))
          (sym (opened_formula f p n (replicate p.streams p.room) fits))
          (subst (AllByRecursion (StoresClause f)) (sym (opened_entries f n)) (
            tt,
            clauses_store f 0 f.clauses n (each_follows f f.clauses cnf.clauses (λ a all. all)),
          ));
    }

-- the entries, literals and rooms make an opened map of this formula
abbrev pub IsOpened : Cnf → LayoutValue → ℕ → List Entry → List ℤ → List ℕ → Type 0
IsOpened f p capacity es ls free = IsPlainSound p es ls free capacity × (formula_of (plain_of p es ls free) ≡ f)
    × (plain_state (plain_of p es ls free) ≡ opening f)

-- lists that satisfy these equations make an opened map of the formula
pub opened : (f : Cnf) (p : LayoutValue) (n capacity : ℕ) (first kept all : List Entry) (ls : List ℤ) (free : List ℕ) → IsCnf f
    → IsLayout p → Fits p f → n ≡ last_identity p - length f.clauses → formula_literals f + p.streams * p.room ≤ capacity
    → first ≡ Vacant ∷ [] → kept ≡ first ++ entries_from 0 f.clauses → all ≡ kept ++ replicate n Vacant → ls ≡ flat f.clauses
    → free ≡ replicate p.streams p.room → IsOpened f p capacity all ls free
opened f p n capacity first kept all ls free cnf is fits rest enough one some whole literals rooms =
    let whole_map = Vacant ∷ (entries_from 0 f.clauses ++ replicate n Vacant) in
    let entries : all ≡ whole_map =
    whole ∙ ap (λ (es : List Entry). es ++ replicate n Vacant) (some ∙ ap (λ (es : List Entry). es ++ entries_from 0 f.clauses) one) in
    subst (λ (es : List Entry). IsOpened f p capacity es ls free) (sym entries)
    (subst (λ (l : List ℤ). IsOpened f p capacity whole_map l free) (sym literals)
    (subst (λ (r : List ℕ). IsOpened f p capacity whole_map (flat f.clauses) r) (sym rooms) (
      opened_sound f p n capacity cnf is fits rest enough,
      opened_formula f p n (replicate p.streams p.room) fits,
      opened_state f p n (replicate p.streams p.room),
    )))
