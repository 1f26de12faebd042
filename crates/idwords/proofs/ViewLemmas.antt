-- Lemmas about the thread states of all tokens.
use Rattle.std.proofs.Common.{inl, inr, ◌≡◌, ◌≢◌, ℕ, ◌+◌, ◌≤◌, zero, suc, cond, eqb, List, [], ◌∷◌, ◌++◌, set, refl, sym, ap, subst, arith}
use Rattle.std.proofs.Common.{eq-eqb}
use Rattle.std.specs.List.{AllByRecursion}
use mathlib.Core.Option.{some, some-injective, some-ne-none}
use lib.ListN.{get_elem?}
use Rattle.std.proofs.lemmas.Bool.{cases_eq, cond-true}
use Rattle.idwords.specs.Seats.{ThreadState}
use Rattle.idwords.specs.internal.Rule.{thread_stream, AllThreads, count_in, times}

-- Every thread state

pub all_at : (P : ThreadState → Type 0) (views : List (List ThreadState)) (id : ℕ) (vs : List ThreadState) → get_elem? views id ≡ some vs
    → AllThreads P views
    → AllByRecursion P vs
all_at P [] id vs here all = absurd (some-ne-none vs (sym here))
all_at P (us ∷ views) zero vs here all = subst (λ (xs : List ThreadState). AllByRecursion P xs) (some-injective us vs here) all.0
all_at P (us ∷ views) (suc id) vs here all = all_at P views id vs here all.1

pub all-set : (P : ThreadState → Type 0) (views : List (List ThreadState)) (id : ℕ) (vs : List ThreadState) → AllThreads P views
    → AllByRecursion P vs
    → AllThreads P (set views id vs)
all-set P [] id vs all new = tt
all-set P (us ∷ views) zero vs all new = (new, all.1)
all-set P (us ∷ views) (suc id) vs all new = (all.0, all-set P views id vs all.1 new)

pub all-snoc : (P : ThreadState → Type 0) (views : List (List ThreadState)) (vs : List ThreadState) → AllThreads P views
    → AllByRecursion P vs
    → AllThreads P (views ++ vs ∷ [])
all-snoc P [] vs all new = (new, tt)
all-snoc P (us ∷ views) vs all new = (all.0, all-snoc P views vs all.1 new)

-- How many thread states each stream has

pub times-set : (s : ℕ) (views : List (List ThreadState)) (id : ℕ) (vs ws : List ThreadState) → get_elem? views id ≡ some vs
    → times s (set views id ws) + count_in s vs ≡ times s views + count_in s ws
times-set s [] id vs ws here = absurd (some-ne-none vs (sym here))
times-set s (us ∷ views) zero vs ws here =
    let same : count_in s us ≡ count_in s vs = ap (count_in s) (some-injective us vs here) in omega arith
times-set s (us ∷ views) (suc id) vs ws here = let rest = times-set s views id vs ws here in omega arith

pub times-snoc : (s : ℕ) (views : List (List ThreadState)) (vs : List ThreadState)
    → times s (views ++ vs ∷ []) ≡ times s views + count_in s vs
times-snoc s [] vs = omega arith
times-snoc s (us ∷ views) vs = let rest = times-snoc s views vs in omega arith

-- if a thread state changes but keeps its stream, each stream still has at most one thread state
pub times-same : (views : List (List ThreadState)) (id : ℕ) (v w : ThreadState) → get_elem? views id ≡ some (v ∷ [])
    → thread_stream w ≡ thread_stream v
    → ((s : ℕ) → times s views ≤ 1) → (s : ℕ) → times s (set views id (w ∷ [])) ≤ 1
times-same views id v w here stream once s =
    let same : count_in s (w ∷ []) ≡ count_in s (v ∷ []) = ap (λ (t : ℕ). cond (eqb t s) 1 0 + 0) stream in
    omega (arith, times-set s views id (v ∷ []) (w ∷ []) here, once s)

-- The others' thread states

one_of : (a b : ℕ) → a ≡ b → ◌≡◌ {A = ℕ} (cond (eqb a b) 1 0) 1
one_of a b same = cond-true (eqb a b) 1 0 (eq-eqb a b same)

-- if none of the thread states is stream s's, P holds of all, and P implies Q for thread states of
-- other streams, then Q holds of all
all_others : (P Q : ThreadState → Type 0) (s : ℕ) (vs : List ThreadState) → count_in s vs ≤ 0 → AllByRecursion P vs
    → ((q : ThreadState) → thread_stream q ≢ s → P q → Q q) → AllByRecursion Q vs
all_others P Q s [] none all go = tt
all_others P Q s (v ∷ vs) none all go =
    elim (cases_eq (thread_stream v) s) [
      | inl same ↦ absurd (omega (arith, one_of (thread_stream v) s same))
      | inr other ↦ (go v other all.0, all_others P Q s vs (omega arith) all.1 go)
    ]

none_others : (P Q : ThreadState → Type 0) (s : ℕ) (views : List (List ThreadState)) → times s views ≤ 0 → AllThreads P views
    → ((q : ThreadState) → thread_stream q ≢ s → P q → Q q) → AllThreads Q views
none_others P Q s [] none all go = tt
none_others P Q s (vs ∷ views) none all go = (all_others P Q s vs (omega arith) all.0 go, none_others P Q s views (omega arith) all.1 go)

-- if a token has one thread state, its stream has at least one
counted : (views : List (List ThreadState)) (id : ℕ) (v : ThreadState) → get_elem? views id ≡ some (v ∷ [])
    → 1 ≤ times (thread_stream v) views
counted [] id v here = absurd (some-ne-none (v ∷ []) (sym here))
counted (us ∷ views) zero v here =
    let one = one_of (thread_stream v) (thread_stream v) refl in
    let same : count_in (thread_stream v) us ≡ count_in (thread_stream v) (v ∷ []) =
    ap (count_in (thread_stream v)) (some-injective us (v ∷ []) here) in
    omega arith
counted (us ∷ views) (suc id) v here = let rest = counted views id v here in omega arith

-- if P holds of all thread states and implies Q for those of other streams, then Q holds of all
-- after a token's one thread state is replaced by another one of which Q holds
pub moved : (P Q : ThreadState → Type 0) (views : List (List ThreadState)) (id : ℕ) (v w : ThreadState) → get_elem? views id ≡ some (v ∷ [])
    → times (thread_stream v) views ≤ 1 → AllThreads P views
    → ((q : ThreadState) → thread_stream q ≢ thread_stream v → P q → Q q) → Q w → AllThreads Q (set views id (w ∷ []))
moved P Q [] id v w here once all go new = absurd (some-ne-none (v ∷ []) (sym here))
moved P Q (us ∷ views) zero v w here once all go new =
    let one = one_of (thread_stream v) (thread_stream v) refl in
    let same : count_in (thread_stream v) us ≡ count_in (thread_stream v) (v ∷ []) =
    ap (count_in (thread_stream v)) (some-injective us (v ∷ []) here) in
    ((new, tt), none_others P Q (thread_stream v) views (omega arith) all.1 go)
moved P Q (us ∷ views) (suc id) v w here once all go new =
    let rest = counted views id v here in
    (all_others P Q (thread_stream v) us (omega arith) all.0 go, moved P Q views id v w here (omega arith) all.1 go new)
