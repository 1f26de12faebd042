-- The texts of cubes, with the words and the limits of a stream's lines (this project's own):
--     cube = *( lit SP ) "0" LF
-- A file is the text of a cube if it is one such line and nothing more.
use Rattle.std.specs.Prelude.{◌≡◌, ◌⊎◌, ◌↔◌, ◌≤◌, ◌<◌, ◌^◌, ℕ, ℤ, false, List, [], ◌∷◌, ◌++◌, codes, length, map, flat_map}
use Rattle.std.specs.Fmt.{signed_decimal}
use Rattle.lrup_model.specs.Cube.{CubeValue, IsCubeOf, IsCubeOver}
use Rattle.lrup_text.specs.declared.cube.CubeFault.{CubeFault}
use Rattle.lrup_text.specs.declared.cube.CubeFault.TheVariants.{Spelling, TooLong, Range, Memory}
use Rattle.lrup_text.specs.Grammar.{Limits, AreLifted, standard, AreFew, SpellsLiteral, clause_text}
use Rattle.lrup_text.specs.Lines.{IsStreamLiteral}

-- the bytes are a cube's text with these literals, in this order
pub record IsLiteralsText (literals : List ℤ) (bytes : List ℕ) : Type 0 where
  pub few : AreFew 65535 IsStreamLiteral literals
  pub is : bytes ≡ clause_text (map signed_decimal literals) (codes "\n")

-- The bytes are a text of the cube: literals over the variables 1 to vars, each literal followed by
-- a space, and then 0 and LF. The cube is the set of these literals.
pub record IsCubeText (vars : ℕ) (bytes : List ℕ) (cube : CubeValue) : Type 0 where
  pub literals : List ℤ
  pub text : bytes ≡ flat_map (λ l. signed_decimal l ++ codes " ") literals ++ codes "0\n"
  pub few : length literals ≤ 65535
  pub over : IsCubeOver vars literals
  pub set : IsCubeOf literals cube

-- Faults.

-- the bytes are a cube's text within the limits
abbrev pub IsCubeLine : Limits → List ℕ → Type 0
IsCubeLine limits bytes = (words : List (List ℕ))
    × AreFew limits.literals (SpellsLiteral limits.digits) words
    × (bytes ≡ clause_text words (codes "\n"))

-- some rest completes the bytes to a text of this kind within the limits
abbrev pub BeginsOne : (Limits → List ℕ → Type 0) → Limits → List ℕ → Type 0
BeginsOne IsOne limits bytes = (rest : List ℕ) × IsOne limits (bytes ++ rest)

-- the bytes are a prefix of a text if the limits are lifted
abbrev pub BeginsOneLifted : (Limits → List ℕ → Type 0) → List ℕ → Type 0
BeginsOneLifted IsOne bytes =
    (limits : Limits) × AreLifted false limits × BeginsOne IsOne limits bytes

-- the bytes are a proper prefix of a text
abbrev pub BreaksOff : (Limits → List ℕ → Type 0) → List ℕ → Type 0
BreaksOff IsOne bytes = BeginsOne IsOne standard bytes × ¬ IsOne standard bytes

-- no text begins with the bytes, and `Shortest` holds for their shortest prefix with which no text
-- begins
pub record BeginsNone (IsOne : Limits → List ℕ → Type 0) (bytes : List ℕ)
    (Shortest : List ℕ → Type 0) : Type 0 where
  pub read : List ℕ
  pub byte : ℕ
  pub after : List ℕ
  pub is : bytes ≡ read ++ byte ∷ after
  pub before : BeginsOne IsOne standard read
  pub none : ¬ BeginsOne IsOne standard (read ++ byte ∷ [])
  pub shortest : Shortest (read ++ byte ∷ [])

-- why the bytes aren't a text
abbrev pub IsTextFault : (Limits → List ℕ → Type 0) → List ℕ → CubeFault → Type 0
IsTextFault IsOne bytes Spelling =
    BreaksOff IsOne bytes ⊎ BeginsNone IsOne bytes (λ shortest. ¬ BeginsOneLifted IsOne shortest)
IsTextFault IsOne bytes TooLong = BeginsNone IsOne bytes (BeginsOneLifted IsOne)
IsTextFault IsOne bytes Range = ⊥
IsTextFault IsOne bytes Memory = ⊥

-- the first fault of the bytes, for a cube over the variables 1 to vars; `Memory` is possible only
-- if the bytes have no other fault
abbrev pub IsCubeFault : ℕ → List ℕ → CubeFault → Type 0
IsCubeFault vars bytes Spelling = IsTextFault IsCubeLine bytes Spelling
IsCubeFault vars bytes TooLong = IsTextFault IsCubeLine bytes TooLong
IsCubeFault vars bytes Range =
    (literals : List ℤ) × IsLiteralsText literals bytes × ¬ IsCubeOver vars literals
IsCubeFault vars bytes Memory =
    (literals : List ℤ) × IsLiteralsText literals bytes × IsCubeOver vars literals

-- Laws

-- the text of literals isn't misspelled, and isn't too long
abbrev pub TextHasNoFault : Type 0
TextHasNoFault = (literals : List ℤ) (bytes : List ℕ) (fault : CubeFault)
    → IsLiteralsText literals bytes → ¬ IsTextFault IsCubeLine bytes fault

-- if variables have at most 18 digits, the texts of a cube are exactly the texts of the lists of
-- literals over the variables whose set is the cube
abbrev pub CubeTextIsRead : Type 0
CubeTextIsRead = (vars : ℕ) (bytes : List ℕ) (cube : CubeValue) → vars < 10 ^ 18
    → IsCubeText vars bytes cube
    ↔ ((literals : List ℤ) × IsLiteralsText literals bytes × IsCubeOver vars literals
    × IsCubeOf literals cube)
