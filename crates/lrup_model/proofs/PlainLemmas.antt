-- How the events of a stream change the clause map of one thread.
use Rattle.std.proofs.Common.{◌≡◌, ◌≢◌, ℕ, zero, suc, ◌+◌, ◌-◌, ◌<◌, ◌≤◌, Bool, true, false, cond, eqb, List, [], ◌∷◌, length, get_or, set}
use Rattle.std.proofs.Common.{take, drop, Some, None, refl, sym, ap, subst, ◌∙◌, arith}
use Rattle.std.specs.Prelude.{map}
use Rattle.std.proofs.Math.Path.{fun_ext}
use Rattle.std.proofs.lemmas.Bool.{eqb-true, eqb-false}
use Rattle.std.proofs.lemmas.List.{get_or-set_other, take-set-le, drop-set-add, get_or-take, get_or-drop}
use Rattle.std.proofs.Math.ListN.{get_or-map}
use Rattle.std.proofs.lemmas.Grind.{get_or-set_at}
use Rattle.std.proofs.Math.Numerals.{one-add}
use Rattle.std.proofs.lemmas.Option.{same_Some}
use Rattle.lrup_model.specs.Clause.{Clause}
use Rattle.lrup_model.specs.Layout.{Owns}
use Rattle.lrup_model.specs.Event as events
use Rattle.lrup_model.specs.Event.{Event, stream_of, size_of}
use Rattle.lrup_model.specs.State as slots
use Rattle.lrup_model.specs.State.{IsLive, Answers, after, retire_slot}
use Rattle.lrup_model.specs.History.{IsAllowed, IsPublishable}
use Rattle.lrup_model.specs.Formula.{Cnf, clause_at}
use Rattle.lrup_model.specs.Entailment.{IsDerived}
use Rattle.lrup_model.specs.CallerView.{StoredClause, KeepsSpelt, AllFollow, literals_in}
use Rattle.lrup_model.specs.Replies.{IsFetched, reply_of}
use Rattle.lrup_model.specs.declared.clause_map.Fetched.{Fetched}
use Rattle.lrup_model.specs.declared.clause_map.Retired.{Retired}
use Rattle.lrup_model.specs.declared.clause_map.Retired.TheVariants as retiring
use Rattle.lrup_model.specs.lemmas.HistoryLemmas.{put, owned_above, spent_one}
use Rattle.lrup_model.specs.Plain.{PlainSlot, vacant, live, retired, Plain, slot_of, stored_of, clause_of, plain_slot_at, formula_of}
use Rattle.lrup_model.specs.Plain.{plain_state, free_at, plain_caller_view, PlainMoves}
use Rattle.lrup_model.specs.internal.PlainInside.{IsFormulaLive, AfterPublish, AfterRetire, fetched_of}
use Rattle.lrup_model.specs.declared.clause_map.Published.{Published}
use Rattle.lrup_model.specs.declared.clause_map.Published.TheVariants as publishing

-- Replacing what is stored under one identity

at_set : (xs : List PlainSlot) (id j : ℕ) (v : PlainSlot) (b : Bool) → eqb j id ≡ b → id < length xs
    → slot_of (get_or (set xs id v) j vacant) ≡ cond b (slot_of v) (slot_of (get_or xs j vacant))
at_set xs id j v true e h = ap slot_of (get_or-set_at xs id j v vacant (eqb-true j id e) h)
at_set xs id j v false e h = ap slot_of (get_or-set_other xs id j v vacant (eqb-false j id e))

pub plain_state-set : (m : Plain) (id : ℕ) (v : PlainSlot) (free : List ℕ) → id < length m.plain_slots
    → plain_state (record { layout = m.layout; plain_slots = set m.plain_slots id v; free = free }) ≡ put (plain_state m) id (slot_of v)
plain_state-set m id v free h = fun_ext (λ j. at_set m.plain_slots id j v (eqb j id) refl h)

clauses-set : (xs : List PlainSlot) (n id : ℕ) (v : PlainSlot) → n < id
    → map clause_of (take n (drop 1 (set xs id v))) ≡ map clause_of (take n (drop 1 xs))
clauses-set xs n zero v h = absurd (omega (arith, h))
clauses-set xs n (suc id) v h =
    let le : n ≤ id = omega (arith, h) in
    let cut : take n (drop 1 (set xs (1 + id) v)) ≡ take n (drop 1 xs) = ap (take n) (drop-set-add 1 xs id v)
    ∙ take-set-le n (drop 1 xs) id v le in
    ap (map clause_of) (subst (λ k. take n (drop 1 (set xs k v)) ≡ take n (drop 1 xs)) (one-add id) cut)

pub formula_of-set : (m : Plain) (id : ℕ) (v : PlainSlot) (free : List ℕ) → m.layout.clauses < id
    → formula_of (record { layout = m.layout; plain_slots = set m.plain_slots id v; free = free }) ≡ formula_of m
formula_of-set m id v free h =
    ap (λ (cs : List Clause). record { vars = m.layout.vars; clauses = cs }) (clauses-set m.plain_slots m.layout.clauses id v h)

stored_at-set : (xs : List PlainSlot) (id j : ℕ) (v : PlainSlot) (stored : StoredClause) (b : Bool) → eqb j id ≡ b → id < length xs
    → ((k : StoredClause) → stored_of (get_or xs id vacant) ≡ Some k → stored_of v ≡ Some k)
    → stored_of (get_or xs j vacant) ≡ Some stored → stored_of (get_or (set xs id v) j vacant) ≡ Some stored
stored_at-set xs id j v stored true e h keeps old =
    ap stored_of (get_or-set_at xs id j v vacant (eqb-true j id e) h)
    ∙ keeps stored (subst (λ i. stored_of (get_or xs i vacant) ≡ Some stored) (eqb-true j id e) old)
stored_at-set xs id j v stored false e h keeps old = ap stored_of (get_or-set_other xs id j v vacant (eqb-false j id e)) ∙ old

pub keeps-set : (m : Plain) (id : ℕ) (v : PlainSlot) (free : List ℕ) → id < length m.plain_slots
    → ((k : StoredClause) → stored_of (plain_slot_at m id) ≡ Some k → stored_of v ≡ Some k)
    → KeepsSpelt (λ j. stored_of (plain_slot_at m j))
    (λ j. stored_of (plain_slot_at (record { layout = m.layout; plain_slots = set m.plain_slots id v; free = free }) j))
keeps-set m id v free h keeps j stored old = stored_at-set m.plain_slots id j v stored (eqb j id) refl h keeps old

pub formula_live-set : (m : Plain) (id : ℕ) (v : PlainSlot) (free : List ℕ) → m.layout.clauses < id → IsFormulaLive m
    → IsFormulaLive (record { layout = m.layout; plain_slots = set m.plain_slots id v; free = free })
formula_live-set m id v free derived old j positive within =
    let there = old j positive within in
    (there.0, get_or-set_other m.plain_slots id j v vacant (omega arith) ∙ there.1)

followed_at : (f : Cnf) (xs : List PlainSlot) (id j : ℕ) (v : PlainSlot) (stored : StoredClause) (b : Bool) → eqb j id ≡ b → id < length xs
    → (stored_of v ≡ Some stored → IsDerived f stored.literals)
    → (stored_of (get_or xs j vacant) ≡ Some stored → IsDerived f stored.literals)
    → stored_of (get_or (set xs id v) j vacant) ≡ Some stored → IsDerived f stored.literals
followed_at f xs id j v stored true e h new old there =
    new (sym (ap stored_of (get_or-set_at xs id j v vacant (eqb-true j id e) h)) ∙ there)
followed_at f xs id j v stored false e h new old there =
    old (sym (ap stored_of (get_or-set_other xs id j v vacant (eqb-false j id e))) ∙ there)

-- every clause still follows from the formula if the new one does
pub follow-set : (m : Plain) (s id : ℕ) (v : PlainSlot) (free : List ℕ) → m.layout.clauses < id → id < length m.plain_slots
    → ((stored : StoredClause) → stored_of v ≡ Some stored → AllFollow (plain_caller_view m s) → IsDerived (formula_of m) stored.literals)
    → AllFollow (plain_caller_view m s)
    → AllFollow (plain_caller_view (record { layout = m.layout; plain_slots = set m.plain_slots id v; free = free }) s)
follow-set m s id v free derived within new all = record {
  each = λ j stored there.
      subst (λ (f : Cnf). IsDerived f stored.literals) (sym (formula_of-set m id v free derived))
      (followed_at (formula_of m) m.plain_slots id j v stored (eqb j id) refl within (λ is. new stored is all) (all.each j stored) there);
}

-- One event

pub nothing_stored : {stored : StoredClause} → None ≡ Some stored → ⊥
nothing_stored h = cc

-- an event that changes nothing, with the right reply, leads from a map to the same map
stays : (m : Plain) (s : ℕ) (e : Event) → stream_of e ≡ s → size_of e ≡ 0 → after (plain_state m) e ≡ plain_state m
    → Answers (plain_state m) e → IsAllowed (formula_of m) m.layout e → PlainMoves m m s (e ∷ [])
stays m s e by size same answers allowed = record {
  layout = refl;
  formula = refl;
  callers = (by, tt);
  answers = (answers, allowed, tt);
  state = sym same;
  room = omega (arith, spent_one s e by);
  others = λ t positive other. refl;
  spelt = λ id stored old. old;
  follow = λ all. all;
}

pub moves_taken : (m : Plain) (s id : ℕ) (c : Clause) → Owns m.layout s id → IsPublishable (formula_of m) c
    → plain_state m id ≢ slots.absent → PlainMoves m m s (events.publish s id c publishing.Taken ∷ [])
moves_taken m s id c owns clause taken = stays m s (events.publish s id c publishing.Taken) refl refl refl taken (owns, clause)

-- if a stream uses room for n literals, the room that it has left is n less
room_left : (free : List ℕ) (i n : ℕ) → i < length free → n ≤ get_or free i 0
    → get_or (set free i (get_or free i 0 - n)) i 0 + n ≡ get_or free i 0
room_left free i n within fits = omega (arith, get_or-set_at free i i (get_or free i 0 - n) 0 refl within)

pub moves_done : (m : Plain) (s id start : ℕ) (c : Clause) → 0 < s → s ≤ length m.free → m.layout.clauses < id → id < length m.plain_slots
    → Owns m.layout s id → IsPublishable (formula_of m) c → plain_slot_at m id ≡ vacant → length c ≤ free_at m s
    → PlainMoves m (record {
      layout = m.layout;
      plain_slots = set m.plain_slots id (live (record { start = start; literals = c }));
      free = set m.free (s - 1) (free_at m s - length c);
    }) s (events.publish s id c publishing.Done ∷ [])
moves_done m s id start c first last derived within owns clause empty fits =
    let free = set m.free (s - 1) (free_at m s - length c) in
    let v = live (record { start = start; literals = c }) in
    record {
      layout = refl;
      formula = formula_of-set m id v free derived;
      callers = (refl, tt);
      answers = (ap slot_of empty, (owns, clause), tt);
      state = plain_state-set m id v free within;
      room = omega (
        arith,
        spent_one s (events.publish s id c publishing.Done) refl,
        room_left m.free (s - 1) (length c) (omega (arith, first, last)) fits,
      );
      others = λ t positive other. get_or-set_other m.free (s - 1) (t - 1) _ 0 (omega (arith, first, positive, other));
      spelt = keeps-set m id v free within (λ stored old. absurd (nothing_stored (rw empty at old)));
      follow = follow-set m s id v free derived within (λ stored there all. rw (← (same_Some _ _ there)) (clause.clause, clause.follows));
    }

vacant_from : (s : PlainSlot) → slot_of s ≡ slots.absent → s ≡ vacant
vacant_from vacant h = refl
vacant_from (live stored) h = absurd (cc)
vacant_from (retired stored) h = absurd (cc)

-- a publish leads from the old map to the new one, whatever its result
pub moves_publish : (old new : Plain) (i id : ℕ) (c : Clause) (r : Published) → Owns old.layout (i + 1) id
    → IsPublishable (formula_of old) c
    → length c ≤ free_at old (i + 1) → AfterPublish old new i id c r → PlainMoves old new (i + 1) (events.publish (i + 1) id c r ∷ [])
moves_publish old new i id c publishing.Done owns clause fits after =
    let place : i + 1 - 1 ≡ i = omega arith in
    let v = live (record { start = after.3; literals = c }) in
    let moved = moves_done old (i + 1) id after.3 c (omega arith) (omega (arith, after.0))
    (owned_above old.layout (i + 1) id owns) after.1 owns clause after.2 fits in
    rw after.4 (rw place at moved)
moves_publish old new i id c publishing.Taken owns clause fits after =
    rw after.1 (moves_taken old (i + 1) id c owns clause (λ none. after.0 (vacant_from (plain_slot_at old id) none)))

retired_state : (m : Plain) (id : ℕ) (stored : StoredClause) → plain_slot_at m id ≡ live stored
    → retire_slot (plain_state m id) ≡ slots.retired stored.literals
retired_state m id stored here = ap (λ (x : PlainSlot). retire_slot (slot_of x)) here

-- a retire leads from the old map to the new one, whatever its result
pub moves_retire : (old new : Plain) (s id : ℕ) (r : Retired) → Owns old.layout s id → AfterRetire old new id r
    → PlainMoves old new s (events.retire s id r ∷ [])
moves_retire old new s id retiring.Done owns after =
    let stored : StoredClause = after.1 in
    let v : PlainSlot = retired stored in
    let derived : old.layout.clauses < id = owned_above old.layout s id owns in
    let moved : PlainMoves old (record { layout = old.layout; plain_slots = set old.plain_slots id v; free = old.free }) s
    (events.retire s id retiring.Done ∷ []) = record {
      layout = refl;
      formula = formula_of-set old id v old.free derived;
      callers = (refl, tt);
      answers = (subst (λ (x : PlainSlot). IsLive (slot_of x)) (sym after.2) tt, owns, tt);
      state = plain_state-set old id v old.free after.0 ∙ ap (put (plain_state old) id) (sym (retired_state old id stored after.2));
      room = omega (arith, spent_one s (events.retire s id retiring.Done) refl);
      others = λ t positive other. refl;
      spelt = keeps-set old id v old.free after.0 (λ k there. sym (ap stored_of after.2) ∙ there);
      follow = follow-set old s id v old.free derived after.0 (λ k there all. all.each id k (ap stored_of after.2 ∙ there));
    } in
    subst (λ (n : Plain). PlainMoves old n s (events.retire s id retiring.Done ∷ [])) (sym after.3) moved
moves_retire old new s id retiring.NotLive owns after =
    rw after.1 (stays old s (events.retire s id retiring.NotLive) refl refl refl after.0 owns)

-- Fetches

fetched_is : (m : Plain) (s id : ℕ) (x : PlainSlot) → plain_slot_at m id ≡ x → IsFetched (plain_caller_view m s) id (fetched_of id x)
fetched_is m s id vacant here = ap stored_of here
fetched_is m s id (live stored) here =
    let there : stored_of (plain_slot_at m id) ≡ Some stored = ap stored_of here in (
      refl,
      record {
        stored = there ∙ ap (λ (c : Clause). Some (record { start = stored.start; literals = c })) (sym (ap literals_in there));
        len = sym (ap length (ap literals_in there));
      },
    )
fetched_is m s id (retired stored) here = (stored, ap stored_of here)

pub fetch_fetched : (m : Plain) (s id : ℕ) (r : Fetched) → r ≡ fetched_of id (plain_slot_at m id) → IsFetched (plain_caller_view m s) id r
fetch_fetched m s id r is = rw is (fetched_is m s id (plain_slot_at m id) refl)

-- a clause of the formula is the one stored under its identity
formula_stored : (m : Plain) (id : ℕ) → 0 < id → id ≤ m.layout.clauses → clause_at (formula_of m) id ≡ clause_of (plain_slot_at m id)
formula_stored m id positive within =
    let i : id - 1 < m.layout.clauses = omega arith in
    let place : 1 + (id - 1) ≡ id = omega arith in
    let cut : get_or (take m.layout.clauses (drop 1 m.plain_slots)) (id - 1) vacant ≡ plain_slot_at m id =
    get_or-take m.layout.clauses (drop 1 m.plain_slots) (id - 1) vacant i ∙ get_or-drop 1 m.plain_slots (id - 1) vacant
    ∙ ap (λ (k : ℕ). get_or m.plain_slots k vacant) place in
    get_or-map clause_of (take m.layout.clauses (drop 1 m.plain_slots)) (id - 1) vacant ∙ ap clause_of cut

pub fetch_formula : (m : Plain) (s id : ℕ) (r : Fetched) → 0 < id → id ≤ m.layout.clauses → IsFormulaLive m
    → r ≡ fetched_of id (plain_slot_at m id) → reply_of (plain_caller_view m s) r ≡ events.live (clause_at (formula_of m) id)
fetch_formula m s id r positive within formula is =
    let there = formula id positive within in
    ap (λ (x : Fetched). reply_of (plain_caller_view m s) x) (is ∙ ap (fetched_of id) there.1)
    ∙ ap (λ (x : PlainSlot). events.live (literals_in (stored_of x))) there.1
    ∙ sym (ap events.live (formula_stored m id positive within ∙ ap clause_of there.1))
