-- Lemmas about cubes that are stored as the codes of their literals.
use Rattle.std.proofs.Common.{◌≡◌, inl, inr, ℕ, zero, suc, ◌-◌, ◌/◌, ◌<◌, ◌≤◌, ℤ, pos, neg_ℤ, nat_abs, List, [], ◌∷◌, length, get_or, map}
use Rattle.std.proofs.Common.{refl, sym, subst, ap, ◌∙◌, arith}
use Rattle.std.specs.Prelude.{◌↔◌, IsTrue, Result, Ok, Err}
use Rattle.std.specs.Result.{is_ok}
use Rattle.std.specs.List.{Contains}
use Rattle.std.specs.List.Sorted.{IsPermutation, IsBinarySearchResult}
use Rattle.std.specs.Ordering.{nat_cmp}
use Rattle.std.proofs.lemmas.Bool.{cases_lt}
use Rattle.std.proofs.lemmas.List.Sorted.{IsPermutation-map, IsPermutation-sym, Contains-permutation, searched}
use Rattle.std.proofs.lemmas.Option.{slice_get_read}
use Rattle.lrup_model.specs.Literal.{IsLiteral, IsCode, code_of, max_variable}
use Rattle.lrup_model.specs.internal.Codes.{literal_of, AreCubeCodes}
use Rattle.lrup_model.specs.lemmas.CodeLemmas.{code_of-injective, code_of-literal_of, parity, literal_of-even, literal_of-odd}
use Rattle.lrup_model.specs.Clause.{Has}
use Rattle.lrup_model.specs.lemmas.ClauseLemmas.{Has-at, All-Has, All-from_Has}
use Rattle.lrup_model.specs.Cube.{IsCubeOf, IsCubeOver}

-- The literals of a clause are the elements of its list

has_contains : (xs : List ℤ) (l : ℤ) → Has xs l → Contains xs l
has_contains [] l h = absurd h
has_contains (x ∷ xs) l (inl e) = (0, omega arith, e)
has_contains (x ∷ xs) l (inr h) =
    let there = has_contains xs l h in
    (suc there.0, omega (arith, there.1), there.2)

contains_has : (xs : List ℤ) (l : ℤ) → Contains xs l → Has xs l
contains_has xs l h = Has-at xs h.0 l (slice_get_read xs (length xs) h.0 l refl h.1 (sym h.2))

-- the codes in any other order give a cube of the same literals
pub reordered : (xs ys : List ℕ) (literals : List ℤ) → IsPermutation xs ys → map literal_of xs ≡ literals
    → IsCubeOf literals (map literal_of ys)
reordered xs ys literals same is l =
    let moved = IsPermutation-map literal_of xs ys same in
    let back = IsPermutation-sym (map literal_of xs) (map literal_of ys) moved in (
      (λ h. subst (λ (zs : List ℤ). Has zs l) is (contains_has (map literal_of xs) l
          (Contains-permutation (map literal_of ys) (map literal_of xs) l back (has_contains (map literal_of ys) l h)))),
      (λ h. contains_has (map literal_of ys) l
          (Contains-permutation (map literal_of xs) (map literal_of ys) l moved
          (has_contains (map literal_of xs) l (subst (λ (zs : List ℤ). Has zs l) (sym is) h)))),
    )

-- From an index to the literal whose code is there, and back

pub has_at : (codes : List ℕ) (k : ℕ) → k < length codes → Has (map literal_of codes) (literal_of (get_or codes k 0))
has_at [] k lt = absurd (omega (arith, lt))
has_at (code ∷ codes) zero lt = inl refl
has_at (code ∷ codes) (suc k) lt = inr (has_at codes k (omega (arith, lt)))

pub place_of : (codes : List ℕ) (l : ℤ) → Has (map literal_of codes) l → (k : ℕ) × (k < length codes) × (literal_of (get_or codes k 0) ≡ l)
place_of [] l h = absurd h
place_of (code ∷ codes) l (inl e) = (0, omega arith, e)
place_of (code ∷ codes) l (inr h) =
    let there = place_of codes l h in
    (suc there.0, omega (arith, there.1), there.2)

literal_of-code_of : (l : ℤ) → IsCode max_variable (code_of l) → literal_of (code_of l) ≡ l
literal_of-code_of l code = code_of-injective (literal_of (code_of l)) l (code_of-literal_of (code_of l) code.0)

-- a binary search for a literal's code finds it exactly if the literal is in the cube
pub found : (codes : List ℕ) (l : ℤ) (r : Result ℕ ℕ) → AreCubeCodes codes → IsCode max_variable (code_of l)
    → IsBinarySearchResult (λ y. nat_cmp y (code_of l)) codes r → IsTrue (is_ok r) ↔ Has (map literal_of codes) l
found codes l (Ok i) are code searches =
    let at = searched codes (code_of l) (Ok i) searches (λ j k le lt. are.sorted j k 0 le lt) in (
      (λ is. subst (Has (map literal_of codes)) (ap literal_of at.1 ∙ literal_of-code_of l code) (has_at codes i at.0)),
      (λ h. refl),
    )
found codes l (Err i) are code searches =
    let at = searched codes (code_of l) (Err i) searches (λ j k le lt. are.sorted j k 0 le lt) in (
      (λ is. cc),
      (λ h.
          let there = place_of codes l h in
          let same : get_or codes there.0 0 ≡ code_of l = sym (code_of-literal_of (get_or codes there.0 0) (are.each there.0 0 there.1).0)
          ∙ ap code_of there.2 in
          elim (cases_lt there.0 i) [
            | inl before ↦ absurd (omega (arith, same, at.1 there.0 before))
            | inr after ↦ absurd (omega (arith, same, at.2 there.0 after there.1))
          ]),
    )

-- the variable of a code's literal is half the code, rounded down
variable_of : (code : ℕ) → nat_abs (literal_of code) ≡ code / 2
variable_of code = elim (parity code) [
  | inl e ↦ ap nat_abs (literal_of-even code e)
  | inr e ↦ ap nat_abs (literal_of-odd code e) ∙ abs_neg (code / 2)
]
  where
    abs_neg : (v : ℕ) → nat_abs (neg_ℤ (pos v)) ≡ v
    abs_neg zero = refl
    abs_neg (suc v) = refl

-- a cube is over the variables 1 to n exactly if the variable of its last code is at most n
pub greatest : (codes : List ℕ) (n : ℕ) → AreCubeCodes codes → 0 < length codes
    → IsCubeOver n (map literal_of codes) ↔ (get_or codes (length codes - 1) 0 / 2 ≤ n)
greatest codes n are some =
    let last : ℕ = length codes - 1 in
    let inside : last < length codes = omega arith in (
      (λ over.
          let literal = All-Has (IsLiteral n) (map literal_of codes) (literal_of (get_or codes last 0)) over
          (has_at codes last inside) in
          omega (arith, literal.1, variable_of (get_or codes last 0))),
      (λ few. All-from_Has (IsLiteral n) (map literal_of codes) (λ l h.
          let there = place_of codes l h in
          let code : ℕ = get_or codes there.0 0 in
          let variable : nat_abs l ≡ code / 2 = ap nat_abs (sym there.2) ∙ variable_of code in
          let low : 2 ≤ code = (are.each there.0 0 there.1).0 in
          let high : code ≤ get_or codes last 0 = are.sorted there.0 last 0 (omega (arith, there.1)) inside in
          (omega arith, omega arith))),
    )
