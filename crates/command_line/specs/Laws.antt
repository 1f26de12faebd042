-- What the words mean in the simplest case, as a law for all such words.
use Rattle.std.specs.Prelude.{◌≡◌, ◌==◌, ◌<◌, ◌^◌, Bool, true, false, not, List, [], ◌∷◌, Option, None, length}
use Rattle.std.specs.List.{list_all}
use Rattle.clap.specs.Words.{Text, fault_of}
use Rattle.command_line.specs.CommandLine.{AskFor, AskForRounds, AskToSave, IsCommandLineOf, lrupd}
use Rattle.command_line.specs.declared.words.CommandLine.{CommandLine}
use Rattle.command_line.specs.declared.words.Next.TheVariants.{Nothing}

-- the word doesn't begin with a hyphen (45)
abbrev pub is_plain : Text → Bool
is_plain [] = true
is_plain (byte ∷ rest) = not (byte == 45)

-- a formula and its streams, with each option's default
pub record HasDefaults (first : Text) (rest : List Text) (given : CommandLine) : Type 0 where
  pub formula : given.formula.now ≡ first
  pub streams : given.streams ≡ rest
  pub tries : given.tries ≡ 1000
  pub lines : given.lines ≡ 65536
  pub room : given.room ≡ 1048576
  pub assume : given.assume ≡ None
  pub next : given.next ≡ Nothing
  pub serial : given.serial ≡ false
  pub watch : given.watch ≡ false

-- If no word begins with a hyphen, the words are a formula and its streams in order, and ask for
-- neither a checkpoint nor rounds.
abbrev pub PlainWords : Type 0
PlainWords = (formula : Text) (streams : List Text) → is_plain formula ≡ true
    → list_all is_plain streams ≡ true → 0 < length streams → length streams < 2 ^ 64
    → (fault_of lrupd (formula ∷ streams) ≡ [])
    × ((given : CommandLine) → IsCommandLineOf (formula ∷ streams) given
    → HasDefaults formula streams given)
    × ((path : Text) (assume : Option Text) → AskFor (formula ∷ streams) path assume
    → (path ≡ formula) × (assume ≡ None))
    × ((path : Text) → ¬ AskToSave (formula ∷ streams) path)
    × ((folder : Text) → ¬ AskForRounds (formula ∷ streams) folder)
