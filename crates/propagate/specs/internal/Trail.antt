-- The literals that are false, and their marks (this project's own).
use Rattle.std.specs.Prelude.{◌≡◌, ◌↔◌, ◌+◌, ◌*◌, ◌<◌, ℕ, ℤ, neg_ℤ, Bool, false, true, List, [], ◌∷◌, length, slice_index_or}
use Rattle.std.specs.List.{AllByRecursion}
use Rattle.lrup_model.specs.Literal.{IsLiteral, code_of}
use Rattle.lrup_model.specs.Clause.{Has}

-- The literals that are false, newest last, over the variables 1 to vars.
pub record FalseLiterals : Type 0 where
  pub vars : ℕ
  pub literals : List ℤ

-- no variable occurs twice
abbrev pub AreApart : List ℤ → Type 0
AreApart [] = Unit {0}
AreApart (literal ∷ literals) =
    (¬ Has literals literal) × (¬ Has literals (neg_ℤ literal)) × AreApart literals

-- each literal has a mark, at the index of its code
abbrev pub HaveMarks : List Bool → List ℤ → Type 0
HaveMarks marks literals = AllByRecursion (λ l. code_of l < length marks) literals

-- the literal's mark is set
abbrev pub IsMarked : List Bool → ℤ → Type 0
IsMarked marks l = slice_index_or marks (code_of l) false ≡ true

-- Each of these literals was marked before, and exactly their marks were cleared.
pub record AreTaken (before after : List Bool) (literals : List ℤ) : Type 0 where
  pub marked : (l : ℤ) → Has literals l → IsMarked before l
  pub left : (l : ℤ) → IsMarked after l ↔ (IsMarked before l × (¬ Has literals l))

-- A literal over the variables is marked exactly if it is in the list, and the list has room for
-- one literal of each variable.
pub record AreMarks (vars : ℕ) (marks : List Bool) (literals : List ℤ) (capacity : ℕ) : Type 0 where
  pub count : length marks ≡ 2 * vars + 2
  pub room : vars < capacity
  pub within : AllByRecursion (IsLiteral vars) literals
  pub apart : AreApart literals
  pub marked : (l : ℤ) → IsLiteral vars l → (slice_index_or marks (code_of l) false ≡ true)
      ↔ Has literals l
