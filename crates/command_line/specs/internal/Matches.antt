-- What is found in words that have no fault, and parts of the command (definitions for this crate
-- only).
use Rattle.std.specs.Prelude.{◌≡◌, ◌≢◌, ◌⊎◌, ◌<◌, ◌^◌, ⊤, ℕ, true, List, [], ◌∷◌, Some, codes, length, IsSome}
use Rattle.std.specs.Option.{ForSome}
use Rattle.std.specs.Str.Parse.{IsNumeral, digits_value, without_leading_plus}
use Rattle.clap.specs.Simple.{new_shape, on_top}
use Rattle.clap.specs.Words.{App, IsUnsignedIn, Row, Text, all_of, fault_of, first_of, kind_of}
use Rattle.clap.specs.Words.{matches_of, one_of}
use Rattle.clap.specs.declared.error.Error.{Error}
use Rattle.clap.specs.declared.error.kind.ErrorKind.TheVariants.{OutOfMemory}
use Rattle.command_line.specs.CommandLine.{lrupd, number_rule}
use Rattle.command_line.specs.declared.words.WordsFault.{WordsFault}
use Rattle.command_line.specs.declared.words.WordsFault.TheVariants.{Memory, TwoCheckpoints, Usage}

-- the command without arguments
abbrev pub without_arguments : App
without_arguments = record {
  top = record (new_shape (codes "lrupd")) { no_binary_name = true; has_version = true };
  subs = [];
}

-- the command with the options that take a number
abbrev pub with_numbers : App
with_numbers = on_top (λ s. record s {
  rules = number_rule (codes "tries") 1000000
      ∷ number_rule (codes "lines") 268435456
      ∷ number_rule (codes "room") 268435456 ∷ [];
}) without_arguments

-- a number of 64 bits
abbrev pub IsNumber : Text → Type 0
IsNumber text = IsNumeral 10 (without_leading_plus text)
    × (digits_value 10 (without_leading_plus text) < 2 ^ 64)

-- if the words have the option, its text is a number of 64 bits or, in `HasUpTo`, a number from 0
-- to `most`
abbrev pub HasNumber : Text → List Row → Type 0
HasNumber name rows = ForSome (one_of name rows) IsNumber

abbrev pub HasUpTo : ℕ → Text → List Row → Type 0
HasUpTo most name rows = ForSome (one_of name rows) (IsUnsignedIn 0 most)

-- if the words have the flag, its text is `true` or `false`
abbrev pub HasTruth : Text → List Row → Type 0
HasTruth name rows =
    ForSome (one_of name rows) (λ text. (text ≡ codes "true") ⊎ (text ≡ codes "false"))

-- what the rows have if the words have no fault
pub record AreWhole (rows : List Row) : Type 0 where
  pub tries : HasUpTo 1000000 (codes "tries") rows
  pub lines : HasUpTo 268435456 (codes "lines") rows
  pub room : HasUpTo 268435456 (codes "room") rows
  pub serial : HasTruth (codes "serial") rows
  pub watch : HasTruth (codes "watch") rows
  pub formula : IsSome (first_of (codes "FORMULA") rows)
  pub streams : (paths : List Text) × (all_of (codes "STREAM") rows ≡ Some paths)
      × (0 < length paths)

-- these are the rows of the words, which have no fault
pub record AreRowsOf (words : List Text) (rows : List Row) : Type 0 where
  pub good : fault_of lrupd words ≡ []
  pub found : rows ≡ matches_of lrupd words
  pub whole : AreWhole rows

-- the rows have both a checkpoint and rounds
abbrev pub AreBothIn : List Row → Type 0
AreBothIn rows =
    (path folder : Text) × (first_of (codes "checkpoint") rows ≡ Some path)
    × (first_of (codes "rounds") rows ≡ Some folder)

-- why the rows of words without a fault give no command line: they have both a checkpoint and
-- rounds, or memory ran out
abbrev pub IsRowsFault : List Row → WordsFault → Type 0
IsRowsFault rows (Usage text) = ⊥
IsRowsFault rows TwoCheckpoints = AreBothIn rows
IsRowsFault rows Memory = ⊤

-- the fault for an error from `clap`
abbrev pub IsFaultFrom : Error → WordsFault → Type 0
IsFaultFrom error (Usage text) = kind_of error ≢ OutOfMemory
IsFaultFrom error TwoCheckpoints = ⊥
IsFaultFrom error Memory = ⊤
