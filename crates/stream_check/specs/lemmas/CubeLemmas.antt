-- Lemmas about clauses within a cube.
use Rattle.std.proofs.Common.{◌≡◌, ◌⊎◌, ℤ, neg_ℤ, Bool, true, false, [], ◌∷◌, inl, inr, refl}
use Rattle.std.specs.Prelude.{◌↔◌, ◌||◌, ◌&&◌, IsTrue}
use Rattle.std.specs.Ordering.{int_eq}
use Rattle.std.specs.List.{list_any}
use Rattle.std.proofs.lemmas.Bool.Decides.{Decides-int_eq}
use Rattle.lrup_model.specs.Clause.{Clause, Has}
use Rattle.lrup_model.specs.Cube.{CubeValue, Within}
use Rattle.stream_check.specs.StreamContext.{is_within}

either : (a b : Bool) (A B : Type 0) → (IsTrue a ↔ A) → (IsTrue b ↔ B) → IsTrue (a || b) → A ⊎ B
either true b A B first rest is = inl (first.0 refl)
either false b A B first rest is = inr (rest.0 is)

one_of : (a b : Bool) (A B : Type 0) → (IsTrue a ↔ A) → (IsTrue b ↔ B) → A ⊎ B → IsTrue (a || b)
one_of true b A B first rest some = refl
one_of false b A B first rest (inl x) = absurd (let e : false ≡ true = first.1 x in cc)
one_of false b A B first rest (inr y) = rest.1 y

-- the test of a literal decides whether it is in the cube
has : (cube : CubeValue) (l : ℤ) → IsTrue (list_any (λ k. int_eq k l) cube) ↔ Has cube l
has [] l = ((λ is. absurd (let e : false ≡ true = is in cc)), (λ h. absurd h))
has (k ∷ cube) l = (
  either (int_eq k l) (list_any (λ j. int_eq j l) cube) (k ≡ l) (Has cube l) (Decides-int_eq k l) (has cube l),
  one_of (int_eq k l) (list_any (λ j. int_eq j l) cube) (k ≡ l) (Has cube l) (Decides-int_eq k l) (has cube l),
)

both : (a b : Bool) (A B : Type 0) → (IsTrue a ↔ A) → (IsTrue b ↔ B) → IsTrue (a && b) → A × B
both true b A B first rest is = (first.0 refl, rest.0 is)
both false b A B first rest is = absurd (let e : false ≡ true = is in cc)

two : (a b : Bool) (A B : Type 0) → (IsTrue a ↔ A) → (IsTrue b ↔ B) → A × B → IsTrue (a && b)
two true b A B first rest all = rest.1 all.1
two false b A B first rest all = absurd (let e : false ≡ true = first.1 all.0 in cc)

-- the test of a clause decides whether it is within the cube
pub is_within-decides : (cube : CubeValue) (c : Clause) → IsTrue (is_within cube c) ↔ Within c cube
is_within-decides cube [] = ((λ is. tt), (λ all. refl))
is_within-decides cube (l ∷ c) = (
  both (list_any (λ k. int_eq k (neg_ℤ l)) cube) (is_within cube c) (Has cube (neg_ℤ l)) (Within c cube) (has cube (neg_ℤ l)) (is_within-decides cube c),
  two (list_any (λ k. int_eq k (neg_ℤ l)) cube) (is_within cube c) (Has cube (neg_ℤ l)) (Within c cube) (has cube (neg_ℤ l)) (is_within-decides cube c),
)

-- two tests that decide the same proposition are equal
pub same_test : (a b : Bool) (A : Type 0) → (IsTrue a ↔ A) → (IsTrue b ↔ A) → a ≡ b
same_test true true A first rest = refl
same_test true false A first rest = absurd (let e : false ≡ true = rest.1 (first.0 refl) in cc)
same_test false true A first rest = absurd (let e : false ≡ true = first.1 (rest.0 refl) in cc)
same_test false false A first rest = refl
