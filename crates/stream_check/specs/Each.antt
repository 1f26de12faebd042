-- Lists that have an element for each stream (this project's own).
use Rattle.std.specs.Prelude.{◌+◌, ℕ, List, [], ◌∷◌}

-- The two lists have the same length, and `Holds` is true for each stream and its elements. The
-- first elements are those of stream s.
abbrev pub Each : {X Y : Type 0} → (ℕ → X → Y → Type 0) → ℕ → List X → List Y → Type 0
Each Holds s [] [] = Unit {0}
Each Holds s (x ∷ xs) (y ∷ ys) = Holds s x y × Each Holds (s + 1) xs ys
Each Holds s _ _ = ⊥

-- The three lists have the same length, and `Holds` is true for each stream and its elements. The
-- first elements are those of stream s.
abbrev pub EachOfThree : {X Y Z : Type 0} → (ℕ → X → Y → Z → Type 0) → ℕ → List X → List Y
    → List Z → Type 0
EachOfThree Holds s [] [] [] = Unit {0}
EachOfThree Holds s (x ∷ xs) (y ∷ ys) (z ∷ zs) =
    Holds s x y z × EachOfThree Holds (s + 1) xs ys zs
EachOfThree Holds s _ _ _ = ⊥
