-- The part of a cube's text that has been read: definitions for this crate's own functions.
use Rattle.std.specs.Prelude.{◌≡◌, ℕ, ◌<◌, ℤ, List, [], ◌∷◌, ◌++◌}
use Rattle.std.specs.Fmt.{decimal, signed_decimal}
use Rattle.lrup_model.specs.Cube.{IsCubeOver}
use Rattle.lrup_text.specs.declared.cube.CubeFault.{CubeFault}
use Rattle.lrup_text.specs.declared.cube.CubeFault.TheVariants.{Spelling, TooLong, Range, Memory}
use Rattle.lrup_text.specs.internal.ByteNames.{letter_i}
use Rattle.lrup_text.specs.Writing.{space}
use Rattle.lrup_text.specs.Lines.{IsStreamNumber, IsStreamLiteral}
use Rattle.lrup_text.specs.internal.Rests.{Spot, Tracks}
use Rattle.lrup_text.specs.Cubes.{IsCubeLine, IsTextFault}

-- The bytes that, put before a cube's text, make it the text of an import: the number 1 and the
-- letter i, each followed by a space.
abbrev pub import_front : List ℕ
import_front = 49 ∷ space ∷ letter_i ∷ space ∷ []

-- after `import_front`, the part of a cube's text that was read ends at this spot
abbrev pub EndsAtSpot : List ℕ → Spot → Type 0
EndsAtSpot read spot = Tracks (import_front ++ read) spot

-- if what was read ends at a spot of this kind, and one more literal is allowed there, the rest
-- completes it to a text with this fault
abbrev pub IsRestFault : (ℕ → Spot) → List ℕ → CubeFault → Type 0
IsRestFault spot_after rest fault =
    (read : List ℕ) (count : ℕ) → count < 65535 → EndsAtSpot read (spot_after count)
    → IsTextFault IsCubeLine (read ++ rest) fault

-- the text begins with a number and the space after it
pub record BeginsWithNumber (text : List ℕ) (number : ℕ) (rest : List ℕ) : Type 0 where
  pub fits : IsStreamNumber number
  pub is : text ≡ decimal number ++ space ∷ rest

-- the text begins with a literal and the space after it
pub record ReadsLiteral (text : List ℕ) (literal : ℤ) (rest : List ℕ) : Type 0 where
  pub fits : IsStreamLiteral literal
  pub is : text ≡ signed_decimal literal ++ space ∷ rest

-- the literals are kept
abbrev pub AreKept : ℕ → List ℤ → List ℤ → Type 0
AreKept vars literals kept = (kept ≡ literals) × IsCubeOver vars literals

-- why the literals aren't kept: one is out of range, or memory ran out
abbrev pub AreNotKept : ℕ → List ℤ → CubeFault → Type 0
AreNotKept vars literals Spelling = ⊥
AreNotKept vars literals TooLong = ⊥
AreNotKept vars literals Range = ¬ IsCubeOver vars literals
AreNotKept vars literals Memory = IsCubeOver vars literals
