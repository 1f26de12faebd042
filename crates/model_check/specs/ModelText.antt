-- What it means for a file to be a solver's answer with a model (the output format of the SAT
-- competitions; the exact spelling is this project's own).
use Rattle.std.specs.Prelude.{◌≡◌, ◌==◌, ℕ, ℤ, pos, Bool, false, Option, Some, None, List, [], ◌∷◌, ◌++◌, map, flat_map, if◌then◌else◌}
use Rattle.std.specs.List.{AllByRecursion}
use Rattle.lrup_model.specs.Literal.{IsLiteral}
use Rattle.dimacs.specs.Lines.{token_lines}
use Rattle.dimacs.specs.Numerals.{number_of}

-- the token is this byte, alone
abbrev pub is_byte_alone : ℕ → List ℕ → Bool
is_byte_alone letter [] = false
is_byte_alone letter (byte ∷ []) = byte == letter
is_byte_alone letter (byte ∷ next ∷ bytes) = false

-- `v`, which begins a line of literals, and `s`, which begins the line with the verdict
abbrev pub is_v : List ℕ → Bool
is_v token = is_byte_alone 118 token

abbrev pub is_s : List ℕ → Bool
is_s token = is_byte_alone 115 token

-- the tokens after the `v` of a line of literals; none of a line that begins with `s`, or has no
-- tokens; `None` for any other line that isn't a comment
abbrev pub values_of : List (List ℕ) → Option (List (List ℕ))
values_of [] = Some []
values_of (first ∷ tokens) =
    if is_v first then Some tokens else (if is_s first then Some [] else None)

-- The bytes are an answer with these literals, over the variables 1 to vars. Lines without tokens
-- and comments are left out. The tokens of the lines that begin with `v`, one line after the other,
-- are the literals, in any order and any number of times, and a last 0.
pub record IsModelText (vars : ℕ) (bytes : List ℕ) (literals : List ℤ) : Type 0 where
  pub values : List (List (List ℕ))
  pub lines : map values_of (token_lines bytes) ≡ map (λ tokens. Some tokens) values
  pub numbers : map number_of (flat_map (λ tokens. tokens) values)
      ≡ map (λ (number : ℤ). Some number) (literals ++ pos 0 ∷ [])
  pub within : AllByRecursion (IsLiteral vars) literals
