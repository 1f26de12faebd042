-- Lemmas about lists that have an element for each stream.
use Rattle.std.proofs.Common.{◌≡◌, ◌≢◌, ◌∙◌, ◌+◌, ◌++◌, ◌-◌, ◌≤◌, ℕ, zero, suc, List, [], ◌∷◌, Some, length, map, set, take, ap, refl, sym, subst, arith}
use Rattle.std.specs.List.{AllZip}
use Rattle.std.specs.Prelude.{slice_get}
use Rattle.stream_check.specs.Closed.{IsOfStream}
use Rattle.stream_check.specs.Each.{Each}

module _ {X Y : Type 0} (Holds : ℕ → X → Y → Type 0) where
  -- both lists have the same length
  pub each_count : (s : ℕ) (xs : List X) (ys : List Y) → Each Holds s xs ys
      → length ys ≡ length xs
  each_count s [] [] each = refl
  each_count s [] (y ∷ ys) each = absurd each
  each_count s (x ∷ xs) [] each = absurd each
  each_count s (x ∷ xs) (y ∷ ys) each = ap suc (each_count (s + 1) xs ys each.1)

  -- `Holds` is true for the elements at any index
  pub each_from : (s : ℕ) (xs : List X) (ys : List Y) → Each Holds s xs ys
      → (k : ℕ) (x : X) (y : Y) → slice_get xs k ≡ Some x → slice_get ys k ≡ Some y
      → Holds (s + k) x y
  each_from s [] [] each k x y at there = absurd (cc)
  each_from s [] (b ∷ ys) each k x y at there = absurd each
  each_from s (a ∷ xs) [] each k x y at there = absurd each
  each_from s (a ∷ xs) (b ∷ ys) each zero x y at there =
      let first : a ≡ x = cc in
      let second : b ≡ y = cc in
      let here : s ≡ s + 0 = omega arith in
      subst (λ n. Holds n x y) here
      (subst (λ z. Holds s z y) first (subst (λ z. Holds s a z) second each.0))
  each_from s (a ∷ xs) (b ∷ ys) each (suc k) x y at there =
      let next : s + 1 + k ≡ s + suc k = omega arith in
      subst (λ n. Holds n x y) next (each_from (s + 1) xs ys each.1 k x y at there)

  -- each element of the second list has a counterpart in the first
  pub each_second : (s : ℕ) (xs : List X) (ys : List Y) → Each Holds s xs ys → (k : ℕ) (y : Y)
      → slice_get ys k ≡ Some y → (x : X) × Holds (s + k) x y
  each_second s [] [] each k y there = absurd (cc)
  each_second s [] (b ∷ ys) each k y there = absurd each
  each_second s (a ∷ xs) [] each k y there = absurd each
  each_second s (a ∷ xs) (b ∷ ys) each zero y there =
      let same : b ≡ y = cc in
      let here : s ≡ s + 0 = omega arith in
      (a, subst (λ n. Holds n a y) here (subst (λ z. Holds s a z) same each.0))
  each_second s (a ∷ xs) (b ∷ ys) each (suc k) y there =
      let next : s + 1 + k ≡ s + suc k = omega arith in
      let later = each_second (s + 1) xs ys each.1 k y there in
      (later.0, subst (λ n. Holds n later.0 y) next later.1)

  -- `Holds` is true for the elements of stream s
  pub each_at : (xs : List X) (ys : List Y) → Each Holds 1 xs ys → (s : ℕ) (x : X) (y : Y)
      → IsOfStream xs s x → IsOfStream ys s y → Holds s x y
  each_at xs ys each s x y at there =
      let first = at.0 in
      let here : 1 + (s - 1) ≡ s = omega (arith, first) in
      subst (λ n. Holds n x y) here (each_from 1 xs ys each (s - 1) x y at.1 there.1)

  -- one more stream's elements can be appended if `Holds` is true for them
  pub each_push : (s : ℕ) (xs : List X) (ys : List Y) (x : X) (y : Y) → Each Holds s xs ys
      → Holds (s + length ys) x y → Each Holds s (xs ++ x ∷ []) (ys ++ y ∷ [])
  each_push s [] [] x y each last =
      let here : s + 0 ≡ s = omega arith in (subst (λ n. Holds n x y) here last, tt)
  each_push s [] (b ∷ ys) x y each last = absurd each
  each_push s (a ∷ xs) [] x y each last = absurd each
  each_push s (a ∷ xs) (b ∷ ys) x y each last =
      let next : s + suc (length ys) ≡ s + 1 + length ys = omega arith in
      (each.0, each_push (s + 1) xs ys x y each.1 (subst (λ n. Holds n x y) next last))

  -- `Each` holds for the first n streams
  pub each_take : (n s : ℕ) (xs : List X) (ys : List Y) → Each Holds s xs ys
      → Each Holds s (take n xs) (take n ys)
  each_take zero s [] [] each = tt
  each_take (suc n) s [] [] each = tt
  each_take n s [] (y ∷ ys) each = absurd each
  each_take n s (x ∷ xs) [] each = absurd each
  each_take zero s (x ∷ xs) (y ∷ ys) each = tt
  each_take (suc n) s (x ∷ xs) (y ∷ ys) each = (each.0, each_take n (s + 1) xs ys each.1)

-- if `Holds` implies `Also`, then `Also` is true for each stream
pub each_more : {X Y : Type 0} {Holds Also : ℕ → X → Y → Type 0} (s : ℕ) (xs : List X)
    (ys : List Y) → Each Holds s xs ys
    → ((t : ℕ) (x : X) (y : Y) → Holds t x y → Also t x y) → Each Also s xs ys
each_more s [] [] each follows = tt
each_more s [] (y ∷ ys) each follows = absurd each
each_more s (x ∷ xs) [] each follows = absurd each
each_more s (x ∷ xs) (y ∷ ys) each follows =
    (follows s x y each.0, each_more (s + 1) xs ys each.1 follows)

-- if `Holds` implies `Also` for `f` of the second element, `Also` is true for each stream, with
-- `map f ys` as the second list
pub each_map : {X Y Z : Type 0} {Holds : ℕ → X → Y → Type 0} (Also : ℕ → X → Z → Type 0)
    (f : Y → Z) (s : ℕ) (xs : List X) (ys : List Y) → Each Holds s xs ys
    → ((t : ℕ) (x : X) (y : Y) → Holds t x y → Also t x (f y)) → Each Also s xs (map f ys)
each_map Also f s [] [] each follows = tt
each_map Also f s [] (y ∷ ys) each follows = absurd each
each_map Also f s (x ∷ xs) [] each follows = absurd each
each_map Also f s (x ∷ xs) (y ∷ ys) each follows =
    (follows s x y each.0, each_map Also f (s + 1) xs ys each.1 follows)

-- if there are only the streams s to `last`, and `Holds` implies `Also` for them, `Also` is true
-- for each stream
pub each_within : {X Y : Type 0} {Holds Also : ℕ → X → Y → Type 0} (last s : ℕ) (xs : List X)
    (ys : List Y) → s + length xs ≤ last + 1 → Each Holds s xs ys
    → ((t : ℕ) (x : X) (y : Y) → s ≤ t → t ≤ last → Holds t x y → Also t x y) → Each Also s xs ys
each_within last s [] [] within each follows = tt
each_within last s [] (y ∷ ys) within each follows = absurd each
each_within last s (x ∷ xs) [] within each follows = absurd each
each_within last s (x ∷ xs) (y ∷ ys) within each follows = (
  follows s x y (omega arith) (omega (arith, within)) each.0,
  each_within last (s + 1) xs ys (omega (arith, within)) each.1
      (λ t a b after. follows t a b (omega (arith, after))),
)

-- `Also` is true for each stream after v replaces the second list's element at index i, if `Holds`
-- implies `Also` for the other streams, and `Holds` of the old element implies `Also` of v
pub each_set : {X Y : Type 0} {Holds Also : ℕ → X → Y → Type 0} (s i : ℕ) (xs : List X)
    (ys : List Y) (v : Y) → Each Holds s xs ys
    → ((t : ℕ) (x : X) (y : Y) → s ≤ t → t ≢ s + i → Holds t x y → Also t x y)
    → ((x : X) (y : Y) → slice_get ys i ≡ Some y → Holds (s + i) x y → Also (s + i) x v)
    → Each Also s xs (set ys i v)
each_set s i [] [] v each other here = tt
each_set s i [] (y ∷ ys) v each other here = absurd each
each_set s i (x ∷ xs) [] v each other here = absurd each
each_set {Holds = Holds} {Also = Also} s zero (x ∷ xs) (y ∷ ys) v each other here =
    let first : s + 0 ≡ s = omega arith in (
      subst (λ n. Also n x v) first (here x y refl (subst (λ n. Holds n x y) (sym first) each.0)),
      each_within (s + 1 + length xs) (s + 1) xs ys (omega arith) each.1
          (λ t a b from to. other t a b (omega (arith, from)) (λ same. omega (arith, same, from))),
    )
each_set {Holds = Holds} {Also = Also} s (suc i) (x ∷ xs) (y ∷ ys) v each other here =
    let next : s + 1 + i ≡ s + suc i = omega arith in (
      other s x y (omega arith) (λ same. omega (arith, same)) each.0,
      each_set (s + 1) i xs ys v each.1
          (λ t a b from apart. other t a b (omega (arith, from)) (λ same. apart (same ∙ sym next)))
          (λ a b at was. subst (λ n. Also n a v) (sym next)
          (here a b at (subst (λ n. Holds n a b) next was))),
    )

-- two lists for which `AllZip` holds have the same length
pub zip_count : {X Y : Type 0} (Holds : X → Y → Type 0) (xs : List X) (ys : List Y)
    → AllZip Holds xs ys → length ys ≡ length xs
zip_count Holds [] [] all = refl
zip_count Holds [] (y ∷ ys) all = absurd all
zip_count Holds (x ∷ xs) [] all = absurd all
zip_count Holds (x ∷ xs) (y ∷ ys) all = ap suc (zip_count Holds xs ys all.1)
