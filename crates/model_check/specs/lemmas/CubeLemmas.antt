-- Cubes that were read from a text.
use Rattle.std.proofs.Common.{ℕ, List, Option, None, Some, subst, sym}
use Rattle.lrup_model.specs.Cube.{CubeValue, IsCubeOver}
use Rattle.lrup_model.specs.Literal.{IsLiteral}
use Rattle.lrup_model.specs.lemmas.ClauseLemmas.{All-Has, All-from_Has}
use Rattle.lrup_text.specs.Cubes.{IsCubeText}
use Rattle.model_check.specs.Answers.{IsAssumed}

-- the cube of a text over the variables 1 to vars is over these variables, and so is the empty one
pub text_over : (vars : ℕ) (bytes : List ℕ) (cube : CubeValue) → IsCubeText vars bytes cube
    → IsCubeOver vars cube
text_over vars bytes cube text =
    All-from_Has (IsLiteral vars) cube
    (λ l here. All-Has (IsLiteral vars) text.literals l text.over ((text.set l).0 here))

pub assumed_over : (vars : ℕ) (bytes : Option (List ℕ)) (cube : CubeValue)
    → IsAssumed vars bytes cube → IsCubeOver vars cube
assumed_over vars None cube empty = subst (IsCubeOver vars) (sym empty) tt
assumed_over vars (Some bytes) cube text = text_over vars bytes cube text
