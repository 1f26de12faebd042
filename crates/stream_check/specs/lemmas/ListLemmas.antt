-- A lemma about the first elements of a list.
use Rattle.std.proofs.Common.{◌≡◌, ◌++◌, ℕ, List, length, take, ◌∙◌, arith}
use Rattle.std.proofs.lemmas.List.{take-append-le, take_all}

-- a prefix with n elements is the first n elements
pub written_back : {A : Type 0} (n : ℕ) (xs ys : List A) → length xs ≡ n → take n (xs ++ ys) ≡ xs
written_back n xs ys same = take-append-le n xs ys (omega (arith, same)) ∙ take_all n xs (omega
    (arith, same))
