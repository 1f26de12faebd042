-- Lemmas about assignments, entailment and hinted propagation.
use Rattle.std.proofs.Common.{◌≡◌, ◌⊎◌, ℕ, Bool, true, false, zero, suc, ◌-◌, ◌<◌, ◌≤◌, ℤ, pos, negsuc, neg_ℤ, nat_abs, List, [], ◌∷◌, ◌++◌, length, refl, sym, subst, ◌∙◌, inl, inr, arith}
use Rattle.std.specs.Int.{is_positive}
use Rattle.std.specs.List.{AllByRecursion}
use Rattle.std.proofs.lemmas.Bool.{cases_Bool, cases_eq, cases_lt, true≢false}
use Rattle.std.proofs.lemmas.List.Elements.{All-from_recursion}
use Rattle.lrup_model.specs.Literal.{IsLiteral}
use Rattle.lrup_model.specs.Clause.{Clause, Has, IsClause}
use Rattle.lrup_model.specs.lemmas.ClauseLemmas.{All-Has}
use Rattle.lrup_model.specs.Formula.{Cnf, IsCnf, IsFormulaClause, clause_at}
use Rattle.lrup_model.specs.Entailment.{Assignment, MakesTrue, Satisfies, SatisfiesAll, Follows, IsUnsatisfiable}
use Rattle.lrup_model.specs.Layout.{LayoutValue}
use Rattle.lrup_model.specs.Event as events
use Rattle.lrup_model.specs.Event.{Event, History}
use Rattle.lrup_model.specs.State.{State, Slot, absent, live, retired, retire_slot, after, opening, run, state, HasClause}
use Rattle.lrup_model.specs.History.{IsAllowed, LegalFrom}
use Rattle.lrup_model.specs.Propagation.{IsUnit, Refutes, Accepts}
use Rattle.lrup_model.specs.lemmas.HistoryLemmas.{put, put-same, put-other, opening-formula, opening-above, opening-none}
use Rattle.lrup_model.specs.declared.clause_map.Published.TheVariants as publishing
use Rattle.lrup_model.specs.declared.clause_map.Retired.TheVariants as retiring

-- Literals and clauses under an assignment

pub is_positive-pos : (v : ℕ) → is_positive (pos (suc v)) ≡ true
is_positive-pos v = grind arith

pub is_positive-negsuc : (v : ℕ) → is_positive (negsuc v) ≡ false
is_positive-negsuc v = grind arith

pub decide_literal : (a : Assignment) (l : ℤ) → MakesTrue a l ⊎ (MakesTrue a l → ⊥)
decide_literal a l = decide_same (a (nat_abs l)) (is_positive l)
  where
    decide_same : (b c : Bool) → (b ≡ c) ⊎ (b ≡ c → ⊥)
    decide_same true true = inl refl
    decide_same true false = inr true≢false
    decide_same false true = inr (λ same. true≢false (sym same))
    decide_same false false = inl refl

-- a literal and its complement aren't both true
pub not_both : (a : Assignment) (l : ℤ) → 0 < nat_abs l → MakesTrue a l → MakesTrue a (neg_ℤ l) → ⊥
not_both a (pos zero) some truth untrue = omega (arith, some)
not_both a (pos (suc v)) some truth untrue =
    true≢false (sym (is_positive-pos v) ∙ sym truth ∙ untrue ∙ is_positive-negsuc v)
not_both a (negsuc v) some truth untrue =
    true≢false (sym (is_positive-pos v) ∙ sym untrue ∙ truth ∙ is_positive-negsuc v)

-- the assignment makes none of the literals true
abbrev pub MakesNone : Assignment → List ℤ → Type 0
MakesNone a n = (l : ℤ) → Has n l → MakesTrue a l → ⊥

pub MakesNone-cons : (a : Assignment) (x : ℤ) (n : List ℤ) → (MakesTrue a x → ⊥) → MakesNone a n
    → MakesNone a (x ∷ n)
MakesNone-cons a x n not_x none l here truth =
    elim here [
      | inl same ↦ not_x (subst (λ (k : ℤ). MakesTrue a k) (sym same) truth)
      | inr there ↦ none l there truth
    ]

pub MakesNone-push : (a : Assignment) (n : List ℤ) (x : ℤ) → MakesNone a n → (MakesTrue a x → ⊥)
    → MakesNone a (n ++ x ∷ [])
MakesNone-push a [] x none not_x = MakesNone-cons a x [] not_x none
MakesNone-push a (y ∷ n) x none not_x =
    MakesNone-cons a y (n ++ x ∷ []) (none y (inl refl)) (MakesNone-push a n x (λ l there. none l (inr there)) not_x)

pub decide_clause : (a : Assignment) (c : Clause) → Satisfies a c ⊎ MakesNone a c
decide_clause a [] = inr (λ l here truth. here)
decide_clause a (x ∷ c) =
    elim (decide_literal a x) [
      | inl truth ↦ inl (x, inl refl, truth)
      | inr untrue ↦ elim (decide_clause a c) [
        | inl some ↦ inl (some.0, inr some.1, some.2)
        | inr none ↦ inr (MakesNone-cons a x c untrue none)
      ]
    ]

-- Soundness of propagation

-- if clauses refute the assumption that these literals are false, an assignment that satisfies the
-- clauses makes one of the literals true
pub refuted : (vars : ℕ) (a : Assignment) (n : List ℤ) (ds : List Clause)
    → AllByRecursion (λ d. IsClause vars d × Satisfies a d) ds → Refutes n ds → MakesNone a n → ⊥
refuted vars a n [] hold refutes none = refutes
refuted vars a n (d ∷ []) hold refutes none =
    let some : Satisfies a d = hold.0.1 in
    none some.0 (refutes some.0 some.1) some.2
refuted vars a n (d ∷ e ∷ ds) hold refutes none =
    let some : Satisfies a d = hold.0.1 in
    let left : ℤ = refutes.0 in
    let unit : IsUnit n d left = refutes.1 in
    let rest : MakesTrue a left
    → ⊥ = λ truth. refuted vars a (n ++ neg_ℤ left ∷ []) (e ∷ ds) hold.1 refutes.2
    (MakesNone-push a n (neg_ℤ left) none
    (not_both a left (All-Has (IsLiteral vars) d left hold.0.0.literals unit.here).0 truth)) in
    elim (unit.others some.0 some.1) [
      | inl same ↦ rest (subst (λ (k : ℤ). MakesTrue a k) same some.2)
      | inr false_one ↦ none some.0 false_one some.2
    ]

pub all_hold : (f : Cnf) (a : Assignment) (ds : List Clause) → SatisfiesAll a f
    → AllByRecursion (λ d. IsClause f.vars d × Follows f d) ds
    → AllByRecursion (λ d. IsClause f.vars d × Satisfies a d) ds
all_hold f a [] sat follow = tt
all_hold f a (d ∷ ds) sat follow = ((follow.0.0, follow.0.1.holds a sat), all_hold f a ds sat follow.1)

-- if propagation derives a clause from clauses that follow from a formula, the clause follows, too
pub propagation_sound : (f : Cnf) (c : Clause) (ds : List Clause)
    → AllByRecursion (λ d. IsClause f.vars d × Follows f d) ds → Accepts c ds → Follows f c
propagation_sound f c ds follow accepts = record {
  holds = λ a sat. elim (decide_clause a c) [
    | inl some ↦ some
    | inr none ↦ absurd (refuted f.vars a c ds (all_hold f a ds sat follow) accepts.1 none)
  ];
}

-- if the empty clause follows, no assignment satisfies all clauses of the formula
pub empty_refutes : (f : Cnf) → Follows f [] → IsUnsatisfiable f
empty_refutes f follows a sat = (follows.holds a sat).1

-- The clauses of a legal state follow from the formula

-- the slot's clause, if any, follows from the formula
abbrev pub SlotFollows : Cnf → Slot → Type 0
SlotFollows f absent = Unit {0}
SlotFollows f (live c) = IsClause f.vars c × Follows f c
SlotFollows f (retired c) = IsClause f.vars c × Follows f c

-- a clause of the formula follows from it
pub formula_sound : (f : Cnf) (id : ℕ) → IsCnf f → 0 < id → id ≤ length f.clauses
    → IsClause f.vars (clause_at f id) × Follows f (clause_at f id)
formula_sound f id cnf positive within =
    let inside : id - 1 < length f.clauses = omega arith in (
      (All-from_recursion (IsFormulaClause f.vars) f.clauses cnf.clauses (id - 1) [] inside).0,
      record { holds = λ a sat. All-from_recursion (Satisfies a) f.clauses sat (id - 1) [] inside },
    )

pub opening_sound : (f : Cnf) (id : ℕ) → IsCnf f → SlotFollows f (opening f id)
opening_sound f id cnf =
    elim (cases_lt 0 id) [
      | inl positive ↦ elim (cases_lt (length f.clauses) id) [
        | inl above ↦ subst (SlotFollows f) (sym (opening-above f id above)) tt
        | inr within ↦ subst (SlotFollows f) (sym (opening-formula f id positive within)) (formula_sound f id cnf positive within)
      ]
      | inr nil ↦ subst (SlotFollows f) (sym (opening-none f id nil)) tt
    ]

retired_sound : (f : Cnf) (slot : Slot) → SlotFollows f slot → SlotFollows f (retire_slot slot)
retired_sound f absent sound = sound
retired_sound f (live c) sound = sound
retired_sound f (retired c) sound = sound

put_sound : (f : Cnf) (m : State) (j : ℕ) (slot : Slot) (id : ℕ) → SlotFollows f (m id)
    → SlotFollows f slot → SlotFollows f (put m j slot id)
put_sound f m j slot id old new =
    elim (cases_eq id j) [
      | inl same ↦ subst (SlotFollows f) (sym (put-same m j slot id same)) new
      | inr other ↦ subst (SlotFollows f) (sym (put-other m j slot id other)) old
    ]

pub after_sound : (f : Cnf) (p : LayoutValue) (m : State) (e : Event) → IsAllowed f p e
    → ((id : ℕ) → SlotFollows f (m id)) → (id : ℕ) → SlotFollows f (after m e id)
after_sound f p m (events.fetch s j r) allowed sound id = sound id
after_sound f p m (events.publish s j c publishing.Done) allowed sound id = put_sound f m j (live c) id (sound id) (allowed.1.clause, allowed.1.follows)
after_sound f p m (events.publish s j c publishing.Taken) allowed sound id = sound id
after_sound f p m (events.retire s j retiring.Done) allowed sound id = put_sound f m j (retire_slot (m j)) id (sound id) (retired_sound f (m j) (sound j))
after_sound f p m (events.retire s j retiring.NotLive) allowed sound id = sound id

pub run_sound : (f : Cnf) (p : LayoutValue) (m : State) (h : History) → LegalFrom f p m h
    → ((id : ℕ) → SlotFollows f (m id)) → (id : ℕ) → SlotFollows f (run m h id)
run_sound f p m [] legal sound id = sound id
run_sound f p m (e ∷ h) legal sound id = run_sound f p (after m e) h legal.2 (after_sound f p m e legal.1 sound) id

pub clause_of_sound : (f : Cnf) (slot : Slot) (c : Clause) → SlotFollows f slot → HasClause slot c
    → IsClause f.vars c × Follows f c
clause_of_sound f absent c sound has = absurd has
clause_of_sound f (live d) c sound has = subst (λ (x : Clause). IsClause f.vars x × Follows f x) has sound
clause_of_sound f (retired d) c sound has = subst (λ (x : Clause). IsClause f.vars x × Follows f x) has sound

-- every clause that a legal history leaves, live or retired, follows from the formula
pub clauses_follow : (f : Cnf) (p : LayoutValue) (h : History) (id : ℕ) (c : Clause) → IsCnf f
    → LegalFrom f p (opening f) h → HasClause (state f h id) c → IsClause f.vars c × Follows f c
clauses_follow f p h id c cnf legal has =
    clause_of_sound f (state f h id) c (run_sound f p (opening f) h legal (λ j. opening_sound f j cnf) id) has
