-- How numbers are read in a text of sizes (this project's own).
use Rattle.std.specs.Prelude.{◌≡◌, ◌<◌, ◌^◌, ℕ, List, ◌∷◌, ◌++◌, length, slice_index}
use Rattle.std.specs.Fmt.{decimal}
use Rattle.std.specs.Int.{IsInRange}

-- the text begins with a digit, and has nothing after a leading 0
pub record BeginsAsNumber (text : List ℕ) : Type 0 where
  pub some : 0 < length text
  pub digit : IsInRange 48 57 (slice_index text 0)
  pub alone : slice_index text 0 ≡ 48 → length text ≡ 1

-- the text is a number of 64 bits in decimal, the character `end`, and `rest`
pub record IsNumberBefore (text : List ℕ) (end number : ℕ) (rest : List ℕ) : Type 0 where
  pub parts : text ≡ decimal number ++ end ∷ rest
  pub small : number < 2 ^ 64
