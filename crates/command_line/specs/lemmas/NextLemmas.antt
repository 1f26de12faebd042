-- Lemmas about command lines that ask for a checkpoint or for rounds.
use Rattle.std.proofs.Common.{◌≡◌, ◌∙◌, List, None, Some, refl, sym}
use Rattle.clap.specs.Words.{Text}
use Rattle.command_line.specs.CommandLine.{AskForBoth, IsCommandLineOf, checkpoint_of, rounds_of}
use Rattle.command_line.specs.declared.words.CommandLine.{CommandLine}
use Rattle.command_line.specs.declared.words.Next.{Next}
use Rattle.command_line.specs.declared.words.Next.TheVariants.{Checkpoint, Nothing, Rounds}

-- a run with a checkpoint has no rounds
pub never_both : (next : Next) (path : Text) → checkpoint_of next ≡ Some path
    → rounds_of next ≡ None
never_both Nothing path saved = refl
never_both (Checkpoint at) path saved = refl
never_both (Rounds folder) path saved = absurd (let no : None ≡ Some path = saved in cc)

-- words that give a command line don't ask both for a checkpoint and for rounds
pub asks_for_one : (words : List Text) (given : CommandLine) → IsCommandLineOf words given
    → ¬ AskForBoth words
asks_for_one words given line both =
    let once = never_both given.next both.0 (line.said.checkpoint ∙ both.2.path_is) in
    let no : None ≡ Some both.1 = sym once ∙ line.said.rounds ∙ both.3.folder_is in
    cc
