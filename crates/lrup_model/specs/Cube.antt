-- Cubes: sets of assumed literals (textbook). A cube is kept as a list.
use Rattle.std.specs.Prelude.{◌↔◌, ℕ, ℤ, neg_ℤ, List}
use Rattle.std.specs.List.{AllByRecursion}
use Rattle.lrup_model.specs.Literal.{IsLiteral}
use Rattle.lrup_model.specs.Clause.{Clause, Has}
use Rattle.lrup_model.specs.Formula.{Cnf}
use Rattle.lrup_model.specs.Entailment.{Assignment, MakesTrue, SatisfiesAll}

-- the literals of a cube, in some order
abbrev pub CubeValue : Type 0
CubeValue = List ℤ

-- the cube is the set of these literals
abbrev pub IsCubeOf : List ℤ → CubeValue → Type 0
IsCubeOf literals cube = (l : ℤ) → Has cube l ↔ Has literals l

-- a cube over the variables 1 to vars
abbrev pub IsCubeOver : ℕ → CubeValue → Type 0
IsCubeOver vars cube = AllByRecursion (IsLiteral vars) cube

-- the complement of each literal of the clause is in the cube
abbrev pub Within : Clause → CubeValue → Type 0
Within clause cube = AllByRecursion (λ l. Has cube (neg_ℤ l)) clause

-- the assignment makes every literal of the cube true
abbrev pub MakesAllTrue : Assignment → CubeValue → Type 0
MakesAllTrue assignment cube = AllByRecursion (MakesTrue assignment) cube

-- no assignment makes every clause of the formula and every literal of the cube true
abbrev pub IsUnsatisfiableUnder : Cnf → CubeValue → Type 0
IsUnsatisfiableUnder formula cube =
    (assignment : Assignment) → SatisfiesAll assignment formula → MakesAllTrue assignment cube → ⊥
