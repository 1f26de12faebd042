-- The command line of `lrupd`: how it is defined for `clap`, and what `clap` finds in the words.
use Rattle.std.specs.Prelude.{◌≡◌, ◌≢◌, ◌<◌, ◌≤◌, ⊤, ℕ, Bool, true, false, List, [], ◌∷◌, None, Option, Some, codes, length, option_map}
use Rattle.std.specs.Option.{option_map_or}
use Rattle.std.specs.Str.{bytes_eq}
use Rattle.std.specs.Str.Parse.{digits_value, without_leading_plus}
use Rattle.clap.specs.Lexer.{usize_max}
use Rattle.clap.specs.Words.{App, Row, Rule, Text, all_of, fault_of, first_of, matches_of}
use Rattle.clap.specs.Words.{new_rule, one_of}
use Rattle.clap.specs.Simple.{new_shape}
use Rattle.clap.specs.declared.builder.action.ArgAction.TheVariants.{Append, SetTrue}
use Rattle.clap.specs.declared.builder.value_parser.ValueParser.TheVariants as parser
use Rattle.command_line.specs.declared.words.CommandLine.{CommandLine}
use Rattle.command_line.specs.declared.words.Next.{Next}
use Rattle.command_line.specs.declared.words.Next.TheVariants.{Checkpoint, Nothing, Rounds}
use Rattle.command_line.specs.declared.words.WordsFault.{WordsFault}
use Rattle.command_line.specs.declared.words.WordsFault.TheVariants.{Memory, TwoCheckpoints, Usage}

-- an option `--name N` for a number from 0 to `most`
abbrev pub number_rule : Text → ℕ → Rule
number_rule name most = record (new_rule name) {
  long = Some name;
  value_names = 1;
  parser = Some (parser.Unsigned 0 most);
}

-- an option `--name FILE`
abbrev pub file_rule : Text → Rule
file_rule name = record (new_rule name) { long = Some name; value_names = 1 }

-- a flag `--name`
abbrev pub flag_rule : Text → Rule
flag_rule name = record (new_rule name) {
  long = Some name;
  action = Some SetTrue;
  parser = Some parser.Bool;
}

-- STREAM...: one or more words
abbrev pub stream_rule : Rule
stream_rule = record (new_rule (codes "STREAM")) {
  required = true;
  action = Some Append;
  range = Some (record { start_inclusive = 1; end_inclusive = usize_max });
}

-- The command, with its arguments in the order of the help; its words don't begin with the
-- program's name. Arguments without `long` are positional. The three numbers say how many times a
-- vacant hint is fetched again, how many identities a stream has, and how many literals its clauses
-- may have together.
abbrev pub lrupd : App
lrupd = record {
  top = record (new_shape (codes "lrupd")) {
    no_binary_name = true;
    has_version = true;
    rules = number_rule (codes "tries") 1000000
        ∷ number_rule (codes "lines") 268435456
        ∷ number_rule (codes "room") 268435456
        ∷ file_rule (codes "assume") ∷ file_rule (codes "checkpoint") ∷ file_rule (codes "rounds")
        ∷ flag_rule (codes "serial") ∷ flag_rule (codes "watch")
        -- FORMULA: one word
        ∷ record (new_rule (codes "FORMULA")) { required = true }
        ∷ stream_rule ∷ [];
  };
  subs = [];
}

-- The words have no fault, and ask for the formula at a path, and for the assumed literals at
-- another path, if any.
pub record AskFor (words : List Text) (formula : Text) (assume : Option Text) : Type 0 where
  pub good : fault_of lrupd words ≡ []
  pub formula_is : first_of (codes "FORMULA") (matches_of lrupd words) ≡ Some formula
  pub assume_is : first_of (codes "assume") (matches_of lrupd words) ≡ assume

-- The words have no fault, and ask for a checkpoint at a path.
pub record AskToSave (words : List Text) (path : Text) : Type 0 where
  pub good : fault_of lrupd words ≡ []
  pub path_is : first_of (codes "checkpoint") (matches_of lrupd words) ≡ Some path

-- The words have no fault, and ask for rounds in a folder.
pub record AskForRounds (words : List Text) (folder : Text) : Type 0 where
  pub good : fault_of lrupd words ≡ []
  pub folder_is : first_of (codes "rounds") (matches_of lrupd words) ≡ Some folder

-- The words have no fault, and ask both for a checkpoint and for rounds.
abbrev pub AskForBoth : List Text → Type 0
AskForBoth words = (path folder : Text) × AskToSave words path × AskForRounds words folder

-- ---- what the words say, from the rows that are found in them

-- the number of an option, or `default` if the words don't have the option
abbrev pub option_number : Text → ℕ → List Row → ℕ
option_number name default rows =
    option_map_or (λ text. digits_value 10 (without_leading_plus text)) (one_of name rows) default

-- the words have the flag
abbrev pub is_set : Text → List Row → Bool
is_set name rows = option_map_or (λ text. bytes_eq text (codes "true")) (one_of name rows) false

-- the path at which the checkpoint is to be saved, if any
abbrev pub checkpoint_of : Next → Option Text
checkpoint_of Nothing = None
checkpoint_of (Checkpoint path) = Some path.now
checkpoint_of (Rounds folder) = None

-- the folder of the rounds, if the words ask for rounds
abbrev pub rounds_of : Next → Option Text
rounds_of Nothing = None
rounds_of (Checkpoint path) = None
rounds_of (Rounds folder) = Some folder.now

-- the words have a fault: a mistake, or a request for help
abbrev pub HaveFault : List Text → Type 0
HaveFault words = fault_of lrupd words ≢ []

-- What the rows say, field by field.
pub record IsSaidBy (rows : List Row) (given : CommandLine) : Type 0 where
  pub tries : given.tries ≡ option_number (codes "tries") 1000 rows
  pub few_tries : given.tries ≤ 1000000
  pub lines : given.lines ≡ option_number (codes "lines") 65536 rows
  pub few_lines : given.lines ≤ 268435456
  pub room : given.room ≡ option_number (codes "room") 1048576 rows
  pub small_room : given.room ≤ 268435456
  pub assume : option_map (λ path. path.now) given.assume ≡ first_of (codes "assume") rows
  pub checkpoint : checkpoint_of given.next ≡ first_of (codes "checkpoint") rows
  pub rounds : rounds_of given.next ≡ first_of (codes "rounds") rows
  pub serial : given.serial ≡ is_set (codes "serial") rows
  pub watch : given.watch ≡ is_set (codes "watch") rows
  pub formula : first_of (codes "FORMULA") rows ≡ Some given.formula.now
  pub streams : all_of (codes "STREAM") rows ≡ Some given.streams
  pub one : 0 < length given.streams

-- The words have no fault, and the command line is what is found in them.
pub record IsCommandLineOf (words : List Text) (given : CommandLine) : Type 0 where
  pub good : fault_of lrupd words ≡ []
  pub said : IsSaidBy (matches_of lrupd words) given

-- Why there is no command line: the words have a fault, or ask both for a checkpoint and for
-- rounds; or memory ran out.
abbrev pub IsWordsFault : List Text → WordsFault → Type 0
IsWordsFault words (Usage text) = HaveFault words
IsWordsFault words TwoCheckpoints = AskForBoth words
IsWordsFault words Memory = ⊤
