-- The invariant of the clause map of one thread, through publish and retire.
use Rattle.std.proofs.Common.{◌≡◌, ℕ, zero, suc, ℤ, ◌+◌, ◌-◌, ◌<◌, ◌≤◌, List, [], ◌∷◌, ◌++◌, length, get_or, set, take, drop, Some, refl}
use Rattle.std.proofs.Common.{sym, ap, subst, ◌∙◌, arith, length-append, length-drop, length-take}
use Rattle.std.specs.Prelude.{pos, map, sum, slice_range, slice_get}
use Rattle.std.specs.List.{AllByRecursion}
use Rattle.std.proofs.lemmas.List.{map-set, length-set, get_or-take, get_or-drop, get_or_read, get_or-map, length-map}
use Rattle.std.proofs.Math.Nat.{min-eq_left}
use Rattle.std.proofs.lemmas.List.Elements.{All-from_recursion}
use Rattle.std.proofs.lemmas.List.Sums.{sum_by-set}
use Rattle.std.proofs.lemmas.Option.{slice_get-get_or, same_Some}
use Rattle.lrup_model.specs.Clause.{Clause, IsClause}
use Rattle.lrup_model.specs.Formula.{Cnf}
use Rattle.lrup_model.specs.Entailment.{Follows, IsDerived}
use Rattle.lrup_model.specs.Layout.{LayoutValue, Owns, last_identity}
use Rattle.lrup_model.specs.CallerView.{StoredClause, ClipValue, IsKnown, AllFollow, clip_clause}
use Rattle.lrup_model.specs.Plain as plain
use Rattle.lrup_model.specs.Plain.{PlainSlot, Plain, formula_of, stored_of, plain_caller_view}
use Rattle.lrup_model.specs.internal.PlainInside.{IsFormulaLive, StoresClause, AfterPublish, AfterRetire}
use Rattle.lrup_model.specs.History.{IsPublishable}
use Rattle.lrup_model.specs.declared.clause_map.Published.TheVariants as publishing
use Rattle.lrup_model.specs.declared.clause_map.Retired.TheVariants as retiring
use Rattle.lrup_model.specs.internal.PlainInside.{plain_slot_in, plain_of, LiesWithin, IsPlainSound}
use Rattle.lrup_model.specs.declared.plain_map.Entry.{Entry}
use Rattle.lrup_model.specs.declared.plain_map.Entry.TheVariants.{Vacant, Live, Retired}
use Rattle.lrup_model.proofs.PieceLemmas.{slice_range-append, slice_range-end}
use Rattle.lrup_model.specs.lemmas.OwnerLemmas.{owned}
use Rattle.lrup_model.specs.lemmas.ListLemmas.{All-map}
use Rattle.lrup_model.proofs.PlainLemmas.{formula_of-set, formula_live-set, nothing_stored}

-- Lists

AllByRecursion-set : {X : Type 0} (P : X → Type 0) (xs : List X) (i : ℕ) (v : X) → AllByRecursion P xs → P v → AllByRecursion P (set xs i v)
AllByRecursion-set P [] i v h p = tt
AllByRecursion-set P (x ∷ xs) zero v h p = (p, h.1)
AllByRecursion-set P (x ∷ xs) (suc i) v h p = (h.0, AllByRecursion-set P xs i v h.1 p)

-- Entries after the list of literals has grown at its end

LiesWithin-weaker : (n m : ℕ) → n ≤ m → (e : Entry) → LiesWithin n e → LiesWithin m e
LiesWithin-weaker n m le Vacant h = tt
LiesWithin-weaker n m le (Live start len) h = omega (arith, le, h)
LiesWithin-weaker n m le (Retired start len) h = omega (arith, le, h)

plain_slot_in-append : (ls c : List ℤ) (e : Entry) → LiesWithin (length ls) e → plain_slot_in (ls ++ c) e ≡ plain_slot_in ls e
plain_slot_in-append ls c Vacant h = refl
plain_slot_in-append ls c (Live start len) h =
    ap (λ (t : List ℤ). plain.live (record { start = start; literals = t })) (slice_range-append ls c start (start + len) (omega arith) h)
plain_slot_in-append ls c (Retired start len) h = ap (λ (t : List ℤ). plain.retired (record { start = start; literals = t }))
    (slice_range-append ls c start (start + len) (omega arith) h)

map-plain_slot_in-append : (ls c : List ℤ) (es : List Entry) → AllByRecursion (LiesWithin (length ls)) es
    → map (plain_slot_in (ls ++ c)) es ≡ map (plain_slot_in ls) es
map-plain_slot_in-append ls c [] h = refl
map-plain_slot_in-append ls c (e ∷ es) h =
    let here : plain_slot_in (ls ++ c) e ≡ plain_slot_in ls e = plain_slot_in-append ls c e h.0 in
    let there : map (plain_slot_in (ls ++ c)) es ≡ map (plain_slot_in ls) es = map-plain_slot_in-append ls c es h.1 in
    cc

-- Publish

pub stored_more : (ls c : List ℤ) (es : List Entry) (id : ℕ) → AllByRecursion (LiesWithin (length ls)) es
    → map (plain_slot_in (ls ++ c)) (set es id (Live (length ls) (length c)))
    ≡ set (map (plain_slot_in ls) es) id (plain.live (record { start = length ls; literals = c }))
stored_more ls c es id h =
    map-set (plain_slot_in (ls ++ c)) es id (Live (length ls) (length c))
    ∙ ap (λ (xs : List PlainSlot). set xs id (plain_slot_in (ls ++ c) (Live (length ls) (length c)))) (map-plain_slot_in-append ls c es h)
    ∙ ap (λ (t : List ℤ). set (map (plain_slot_in ls) es) id (plain.live (record { start = length ls; literals = t })))
    (slice_range-end ls c)

pub view_more : (p : LayoutValue) (es : List Entry) (ls c : List ℤ) (free : List ℕ) (id : ℕ) → AllByRecursion (LiesWithin (length ls)) es
    → plain_of p (set es id (Live (length ls) (length c))) (ls ++ c) free
    ≡ record {
      layout = p;
      plain_slots = set (map (plain_slot_in ls) es) id (plain.live (record { start = length ls; literals = c }));
      free = free;
    }
view_more p es ls c free id h =
    ap (λ (xs : List PlainSlot). record { layout = p; plain_slots = xs; free = free }) (stored_more ls c es id h)

-- if a stream uses room for n literals, the sum of all rooms decreases by n
sum-less : (free : List ℕ) (i n : ℕ) → i < length free → n ≤ get_or free i 0 → sum (set free i (get_or free i 0 - n)) + n ≡ sum free
sum-less free i n within fits =
    let step : sum (set free i (get_or free i 0 - n)) + get_or free i 0 ≡ sum free + (get_or free i 0 - n) =
    sum_by-set (λ x. x) free i (get_or free i 0 - n) 0 within in
    omega arith

pub sound_more : (p : LayoutValue) (es : List Entry) (ls c : List ℤ) (free : List ℕ) (capacity more i id : ℕ)
    → IsPlainSound p es ls free capacity → p.clauses < id → i < length free → length c ≤ get_or free i 0 → capacity ≤ more
    → IsClause p.vars c → Follows (formula_of (plain_of p es ls free)) c
    → IsPlainSound p (set es id (Live (length ls) (length c))) (ls ++ c) (set free i (get_or free i 0 - length c)) more
sound_more p es ls c free capacity more i id sound derived within fits grows clause follows =
    let left : sum (set free i (get_or free i 0 - length c)) + length c ≡ sum free = sum-less free i (length c) within fits in
    let all : length (ls ++ c) ≡ length ls + length c = length-append ls c in
    let free' = set free i (get_or free i 0 - length c) in
    let v = plain.live (record { start = length ls; literals = c }) in
    let plain_slots : map (plain_slot_in (ls ++ c)) (set es id (Live (length ls) (length c))) ≡ set (map (plain_slot_in ls) es) id v =
    stored_more ls c es id sound.within in
    let same : formula_of (plain_of p (set es id (Live (length ls) (length c))) (ls ++ c) free') ≡ formula_of (plain_of p es ls free) =
    ap formula_of (view_more p es ls c free' id sound.within) ∙ formula_of-set (plain_of p es ls free) id v free' derived in
    record {
      limits = sound.limits;
      count = length-set es id (Live (length ls) (length c)) ∙ sound.count;
      streams = length-set free i (get_or free i 0 - length c) ∙ sound.streams;
      within = AllByRecursion-set (LiesWithin (length (ls ++ c))) es id (Live (length ls) (length c))
          (All-map (LiesWithin (length ls)) (LiesWithin (length (ls ++ c)))
          (LiesWithin-weaker (length ls) (length (ls ++ c)) (omega (arith, all))) es sound.within)
          (omega (arith, all));
      reserved = omega (arith, all, left, sound.reserved, grows);
      small = omega (arith, all, left, sound.small);
      formula = subst IsFormulaLive (sym (view_more p es ls c free' id sound.within))
          (formula_live-set (plain_of p es ls free) id v free' derived sound.formula);
      clauses = subst
          (λ (f : Cnf). AllByRecursion (StoresClause f) (map (plain_slot_in (ls ++ c)) (set es id (Live (length ls) (length c)))))
          (sym same)
          (subst (AllByRecursion (StoresClause (formula_of (plain_of p es ls free)))) (sym plain_slots)
          (AllByRecursion-set (StoresClause (formula_of (plain_of p es ls free))) (map (plain_slot_in ls) es) id v sound.clauses (
            clause,
            follows,
          )));
    }

-- Retire

stores_at : (f : Cnf) (ls : List ℤ) (es : List Entry) (id : ℕ) → AllByRecursion (StoresClause f) (map (plain_slot_in ls) es)
    → id < length es
    → StoresClause f (plain_slot_in ls (get_or es id Vacant))
stores_at f ls [] id h lt = absurd (omega (arith, lt))
stores_at f ls (e ∷ es) zero h lt = h.0
stores_at f ls (e ∷ es) (suc id) h lt = stores_at f ls es id h.1 (omega (arith, lt))

pub stored_retired : (ls : List ℤ) (es : List Entry) (id start len : ℕ)
    → map (plain_slot_in ls) (set es id (Retired start len))
    ≡ set (map (plain_slot_in ls) es) id (plain.retired (record { start = start; literals = slice_range ls start (start + len) }))
stored_retired ls es id start len = map-set (plain_slot_in ls) es id (Retired start len)

pub view_retired : (p : LayoutValue) (es : List Entry) (ls : List ℤ) (free : List ℕ) (id start len : ℕ)
    → plain_of p (set es id (Retired start len)) ls free
    ≡ record {
      layout = p;
      plain_slots =
          set (map (plain_slot_in ls) es) id (plain.retired (record { start = start; literals = slice_range ls start (start + len) }));
      free = free;
    }
view_retired p es ls free id start len =
    ap (λ (xs : List PlainSlot). record { layout = p; plain_slots = xs; free = free }) (stored_retired ls es id start len)

pub sound_retired : (p : LayoutValue) (es : List Entry) (ls : List ℤ) (free : List ℕ) (capacity id start len : ℕ)
    → IsPlainSound p es ls free capacity → p.clauses < id → id < length es → get_or es id Vacant ≡ Live start len
    → IsPlainSound p (set es id (Retired start len)) ls free capacity
sound_retired p es ls free capacity id start len sound derived within here =
    let lies = rw here at (All-from_recursion (LiesWithin (length ls)) es sound.within id Vacant within) in
    let text = slice_range ls start (start + len) in
    let v = plain.retired (record { start = start; literals = text }) in
    let same : formula_of (plain_of p (set es id (Retired start len)) ls free) ≡ formula_of (plain_of p es ls free) =
    ap formula_of (view_retired p es ls free id start len) ∙ formula_of-set (plain_of p es ls free) id v free derived in
    let f = formula_of (plain_of p es ls free) in
    let kept : StoresClause f (plain_slot_in ls (Live start len)) = rw here at (stores_at f ls es id sound.clauses within) in
    record {
      limits = sound.limits;
      count = length-set es id (Retired start len) ∙ sound.count;
      streams = sound.streams;
      within = AllByRecursion-set (LiesWithin (length ls)) es id (Retired start len) sound.within lies;
      reserved = sound.reserved;
      small = sound.small;
      formula = subst IsFormulaLive (sym (view_retired p es ls free id start len))
          (formula_live-set (plain_of p es ls free) id v free derived sound.formula);
      clauses = subst (λ (g : Cnf). AllByRecursion (StoresClause g) (map (plain_slot_in ls) (set es id (Retired start len)))) (sym same)
          (subst (AllByRecursion (StoresClause f)) (sym (stored_retired ls es id start len))
          (AllByRecursion-set (StoresClause f) (map (plain_slot_in ls) es) id v sound.clauses kept));
    }

-- What is stored under an identity

-- the list of literals has the stored literals, from the stored start on
abbrev LiesAt : List ℤ → StoredClause → Type 0
LiesAt ls stored = (len : ℕ) × (stored.start + len ≤ length ls) × (stored.literals ≡ slice_range ls stored.start (stored.start + len))

entry_text : (ls : List ℤ) (es : List Entry) (id : ℕ) (stored : StoredClause) → AllByRecursion (LiesWithin (length ls)) es
    → stored_of (get_or (map (plain_slot_in ls) es) id plain.vacant) ≡ Some stored → LiesAt ls stored
entry_text ls [] id stored h e = absurd (nothing_stored e)
entry_text ls (Vacant ∷ es) zero stored h e = absurd (nothing_stored e)
entry_text ls (Live start len ∷ es) zero stored h e =
    subst (LiesAt ls) (same_Some (record { start = start; literals = slice_range ls start (start + len) }) stored e) (len, h.0, refl)
entry_text ls (Retired start len ∷ es) zero stored h e =
    subst (LiesAt ls) (same_Some (record { start = start; literals = slice_range ls start (start + len) }) stored e) (len, h.0, refl)
entry_text ls (x ∷ es) (suc id) stored h e = entry_text ls es id stored h.1 e

-- literal k of a stored clause is in the list, at the clause's start plus k
pub literal_lies : (ls : List ℤ) (es : List Entry) (id k start : ℕ) (text : Clause) → AllByRecursion (LiesWithin (length ls)) es
    → stored_of (get_or (map (plain_slot_in ls) es) id plain.vacant) ≡ Some (record { start = start; literals = text }) → k < length text
    → (start + k < length ls) × (slice_get text k ≡ Some (get_or ls (start + k) (pos 0)))
literal_lies ls es id k start text h e lt =
    let lies = entry_text ls es id (record { start = start; literals = text }) h e in
    let width : start + lies.0 - start ≡ lies.0 = omega arith in
    let is : text ≡ take lies.0 (drop start ls) = lies.2 ∙ ap (λ n. take n (drop start ls)) width in
    let room : length (drop start ls) ≡ length ls - start = length-drop start ls in
    let size : length text ≡ lies.0 = ap length is ∙ length-take lies.0 (drop start ls) ∙ min-eq_left (omega arith) in
    let short : k < lies.0 = omega arith in (
      omega arith,
      slice_get-get_or text k (pos 0) lt ∙ ap Some (ap (λ (t : List ℤ). get_or t k (pos 0)) is
          ∙ get_or-take lies.0 (drop start ls) k (pos 0) short ∙ get_or-drop start ls k (pos 0)),
    )

-- The whole map and the entry that was read

within_count : (p : LayoutValue) (es : List Entry) (id : ℕ) → length es ≡ last_identity p + 1 → id ≤ last_identity p → id < length es
within_count p es id count le = omega arith

within_stored : (ls : List ℤ) (es : List Entry) (id : ℕ) → id < length es → id < length (map (plain_slot_in ls) es)
within_stored ls es id h = omega (arith, h, length-map es (plain_slot_in ls))

-- the entry that was read gives what is stored under its identity
stored_is : (ls : List ℤ) (es : List Entry) (id : ℕ) (e : Entry) → id < length es → e ≡ get_or es id e
    → get_or (map (plain_slot_in ls) es) id plain.vacant ≡ plain_slot_in ls e
stored_is ls es id e within read = get_or-map (plain_slot_in ls) es id Vacant plain.vacant within
    ∙ ap (plain_slot_in ls) (sym (get_or_read es id e within read Vacant))

pub retire_done : (v : Plain) (p : LayoutValue) (es : List Entry) (ls : List ℤ) (free : List ℕ) (capacity s id start len : ℕ) (e : Entry)
    → plain_of p es ls free ≡ v → IsPlainSound p es ls free capacity → Owns v.layout s id
    → e ≡ get_or es id e → e ≡ Live start len
    → IsPlainSound p (set es id (Retired start len)) ls free capacity
    × AfterRetire v (plain_of p (set es id (Retired start len)) ls free) id retiring.Done
retire_done v p es ls free capacity s id start len e view sound = rw (← view) (λ owns read is.
    let mine = owned p s id sound.limits.some_stream owns in
    let within : id < length es = within_count p es id sound.count mine.identity in
    let here : get_or es id Vacant ≡ Live start len = sym (get_or_read es id e within read Vacant) ∙ is in (
      sound_retired p es ls free capacity id start len sound mine.derived within here,
      (
        within_stored ls es id within,
        record { start = start; literals = slice_range ls start (start + len) },
        stored_is ls es id e within read ∙ ap (plain_slot_in ls) is,
        view_retired p es ls free id start len,
      ),
    ))

pub publish_done : (v : Plain) (p : LayoutValue) (es : List Entry) (ls c more : List ℤ) (free : List ℕ)
    (capacity grown i id n left : ℕ) (e : Entry)
    → plain_of p es ls free ≡ v → IsPlainSound p es ls free capacity → Owns v.layout (i + 1) id
    → IsPublishable (formula_of v) c → length c ≤ get_or v.free i 0
    → e ≡ get_or es id e → e ≡ Vacant → more ≡ ls ++ c → n ≡ length ls → left ≡ get_or free i left → capacity ≤ grown
    → IsPlainSound p (set es id (Live n (length c))) more (set free i (left - length c)) grown
    × AfterPublish v (plain_of p (set es id (Live n (length c))) more (set free i (left - length c))) i id c publishing.Done
publish_done v p es ls c more free capacity grown i id n left e view sound = rw (← view) (λ owns clause fits read is grows from room bigger.
    let mine = owned p (i + 1) id sound.limits.some_stream owns in
    let within : id < length es = within_count p es id sound.count mine.identity in
    let inside : i < length free = omega (arith, mine.last, sound.streams) in
    let left_is : left ≡ get_or free i 0 = get_or_read free i left inside room 0 in
    rw (grows, from, left_is) (
      sound_more p es ls c free capacity grown i id sound mine.derived inside fits bigger clause.clause clause.follows,
      (
        inside,
        within_stored ls es id within,
        stored_is ls es id e within read ∙ ap (plain_slot_in ls) is,
        length ls,
        view_more p es ls c (set free i (get_or free i 0 - length c)) id sound.within,
      ),
    ))

-- literal k of a known clip's clause is in the list, at the clip's start plus k
pub known_literal : (v : Plain) (p : LayoutValue) (es : List Entry) (ls : List ℤ) (free : List ℕ) (clip : ClipValue) (k : ℕ)
    → plain_of p es ls free ≡ v → AllByRecursion (LiesWithin (length ls)) es → IsKnown (plain_caller_view v 1) clip → k < clip.len
    → (clip.start + k < length ls) × (slice_get (clip_clause (plain_caller_view v 1) clip) k ≡ Some (get_or ls (clip.start + k) (pos 0)))
known_literal v p es ls free clip k view within known lt =
    subst (λ (w : Plain). IsKnown (plain_caller_view w 1) clip
    → (clip.start + k < length ls)
    × (slice_get (clip_clause (plain_caller_view w 1) clip) k ≡ Some (get_or ls (clip.start + k) (pos 0)))) view
    (λ here. literal_lies ls es clip.id k clip.start (clip_clause (plain_caller_view (plain_of p es ls free) 1) clip) within here.stored
    (omega (arith, lt, here.len))) known

stored_follows : (f : Cnf) (x : PlainSlot) (stored : StoredClause) → StoresClause f x → stored_of x ≡ Some stored
    → IsDerived f stored.literals
stored_follows f plain.vacant stored stores there = absurd (nothing_stored there)
stored_follows f (plain.live k) stored stores there = subst (λ (j : StoredClause). IsDerived f j.literals) (same_Some k stored there) stores
stored_follows f (plain.retired k) stored stores there = rw (same_Some k stored there) at stores

stores_all : (f : Cnf) (xs : List PlainSlot) (id : ℕ) → AllByRecursion (StoresClause f) xs → StoresClause f (get_or xs id plain.vacant)
stores_all f [] id all = tt
stores_all f (x ∷ xs) zero all = all.0
stores_all f (x ∷ xs) (suc id) all = stores_all f xs id all.1

-- every stored clause follows from the formula, and the formula's clauses are live
pub sound_follows : (v : Plain) (p : LayoutValue) (es : List Entry) (ls : List ℤ) (free : List ℕ) (capacity : ℕ) → plain_of p es ls free ≡ v
    → IsPlainSound p es ls free capacity → AllFollow (plain_caller_view v 1) × IsFormulaLive v
sound_follows v p es ls free capacity view sound = rw (← view) (
  record {
    each = λ id stored there.
        stored_follows (formula_of (plain_of p es ls free)) (get_or (map (plain_slot_in ls) es) id plain.vacant) stored
        (stores_all (formula_of (plain_of p es ls free)) (map (plain_slot_in ls) es) id sound.clauses) there;
  },
  sound.formula,
)
