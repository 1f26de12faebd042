-- How literals and cubes are stored: as codes (this project's own).
use Rattle.std.specs.Prelude.{ℕ, ℤ, neg_ℤ, List, ◌/◌, ◌%◌, ◌==◌, pos, if◌then◌else◌}
use Rattle.std.specs.List.{All}
use Rattle.std.specs.List.Sorted.{IsNonDecreasingBy}
use Rattle.lrup_model.specs.Literal.{IsCode, max_variable}

-- How a cube is stored: the codes of its literals, sorted.
pub record AreCubeCodes (codes : List ℕ) : Type 0 where
  pub each : All (IsCode max_variable) codes
  pub sorted : IsNonDecreasingBy (λ code. code) codes

-- the literal with this code
abbrev pub literal_of : ℕ → ℤ
literal_of code = (if code % 2 == 0 then pos (code / 2) else neg_ℤ (pos (code / 2)))
