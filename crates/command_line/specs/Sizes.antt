-- The sizes of a round, and their text.
use Rattle.std.specs.Prelude.{◌≡◌, ◌<◌, ◌≤◌, ℕ, List, ◌++◌, codes}
use Rattle.std.specs.Fmt.{decimal}
use Rattle.command_line.specs.declared.sizes.Sizes.{Sizes}

-- three numbers in decimal, separated by spaces, and a line feed
abbrev pub sizes_text : Sizes → List ℕ
sizes_text sizes = decimal sizes.streams ++ codes " " ++ decimal sizes.lines ++ codes " "
    ++ decimal sizes.room ++ codes "\n"

-- there are 1 to 64 streams, and the other numbers are in the ranges of `--lines` and `--room`
pub record AreWithinSizes (sizes : Sizes) : Type 0 where
  pub some_streams : 0 < sizes.streams
  pub few_streams : sizes.streams ≤ 64
  pub few_lines : sizes.lines ≤ 268435456
  pub small_room : sizes.room ≤ 268435456

-- the bytes are the text of these sizes
pub record IsSizesText (bytes : List ℕ) (sizes : Sizes) : Type 0 where
  pub text : bytes ≡ sizes_text sizes
  pub within : AreWithinSizes sizes

-- the bytes aren't the text of any sizes
abbrev pub HaveNoSizes : List ℕ → Type 0
HaveNoSizes bytes = (sizes : Sizes) → ¬ IsSizesText bytes sizes
