-- Formulas whose clauses all follow from another formula (textbook), and chains of them.
use Rattle.std.specs.Prelude.{◌≡◌, List, [], ◌∷◌}
use Rattle.std.specs.List.{AllByRecursion}
use Rattle.lrup_model.specs.Cube.{CubeValue, IsUnsatisfiableUnder}
use Rattle.lrup_model.specs.Entailment.{Follows, IsUnsatisfiable}
use Rattle.lrup_model.specs.Formula.{Cnf}

-- every clause of the second formula, over the same variables, follows from the first
pub record Entails (f g : Cnf) : Type 0 where
  pub vars : g.vars ≡ f.vars
  pub each : AllByRecursion (Follows f) g.clauses

-- each formula entails the next one
abbrev pub IsChain : Cnf → List Cnf → Type 0
IsChain f [] = Unit {0}
IsChain f (g ∷ gs) = Entails f g × IsChain g gs

-- the formula at a chain's end
abbrev pub last_of : Cnf → List Cnf → Cnf
last_of f [] = f
last_of f (g ∷ gs) = last_of g gs

-- Laws

abbrev pub EntailsItself : Type 0
EntailsItself = (f : Cnf) → Entails f f

abbrev pub EntailsOnward : Type 0
EntailsOnward = (f g h : Cnf) → Entails f g → Entails g h → Entails f h

-- a formula that entails an unsatisfiable formula is unsatisfiable
abbrev pub RefutesBack : Type 0
RefutesBack = (f g : Cnf) → Entails f g → IsUnsatisfiable g → IsUnsatisfiable f

-- if a formula is unsatisfiable under a cube, so is each formula that entails it
abbrev pub RefutesBackUnder : Type 0
RefutesBackUnder = (f g : Cnf) (cube : CubeValue) → Entails f g → IsUnsatisfiableUnder g cube
    → IsUnsatisfiableUnder f cube

-- if the last formula of a chain is unsatisfiable, so is the first one
abbrev pub ChainRefutes : Type 0
ChainRefutes = (f : Cnf) (gs : List Cnf) → IsChain f gs → IsUnsatisfiable (last_of f gs)
    → IsUnsatisfiable f

-- if the last formula of a chain is unsatisfiable under a cube, so is the first one
abbrev pub ChainRefutesUnder : Type 0
ChainRefutesUnder = (f : Cnf) (gs : List Cnf) (cube : CubeValue) → IsChain f gs
    → IsUnsatisfiableUnder (last_of f gs) cube → IsUnsatisfiableUnder f cube
