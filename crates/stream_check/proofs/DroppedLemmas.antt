-- A set of numbers.
use Rattle.std.proofs.Common.{◌≡◌, ℕ, Bool, true, false, cond, List, [], ◌∷◌, refl, sym, ap, ◌∙◌, inl, inr}
use Rattle.std.specs.Prelude.{◌||◌, ◌==◌}
use Rattle.std.specs.List.{list_any}
use Rattle.std.proofs.lemmas.Bool.{cases_Bool, eqb-true, eq-eqb, eqb-false}
use Rattle.stream_check.specs.StreamContext.{is_among}

pub same_test : (a b : ℕ) → (a == b) ≡ (b == a)
same_test a b =
    elim (cases_Bool (a == b)) [
      | inl same ↦ same ∙ sym (eq-eqb b a (sym (eqb-true a b same)))
      | inr apart ↦ elim (cases_Bool (b == a)) [
        | inl same ↦ absurd (eqb-false a b apart (sym (eqb-true b a same)))
        | inr other ↦ apart ∙ sym other
      ]
    ]

-- a set contains a number exactly if its list of keys does
pub among_keys : (xs : List ℕ) (j : ℕ) → is_among xs j ≡ list_any (λ x. j == x) xs
among_keys [] j = refl
among_keys (x ∷ xs) j = ap (λ (b : Bool). b || is_among xs j) (same_test x j) ∙ ap (λ (b : Bool). (j == x) || b) (among_keys xs j)

pub one_more : (b rest : Bool) → cond b true rest ≡ (rest || b)
one_more true true = refl
one_more true false = refl
one_more false true = refl
one_more false false = refl
