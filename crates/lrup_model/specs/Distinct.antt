-- A list of literals without repetitions (this project's own).
use Rattle.std.specs.Prelude.{ℤ, List, [], ◌∷◌, not}
use Rattle.std.specs.List.{filter}
use Rattle.std.specs.Ordering.{int_eq}

-- the list's literals, each once, in the order of their first occurrences
abbrev pub distinct : List ℤ → List ℤ
distinct [] = []
distinct (x ∷ ls) = x ∷ filter (λ y. not (int_eq y x)) (distinct ls)
