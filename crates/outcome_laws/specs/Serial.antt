-- Round 1 of runs on one thread, and the law about it (this project's own).
use Rattle.std.specs.Prelude.{◌≡◌, ℕ, true, List, [], Some}
use Rattle.lrup_model.specs.Cube.{CubeValue}
use Rattle.stream_check.specs.Excuses.{CutOff}
use Rattle.stream_check.specs.Closed.{IsOfStream}
use Rattle.run_laws.specs.Groups.{NoneExcused}
use Rattle.command_line.specs.declared.words.CommandLine.{CommandLine}
use Rattle.run_files.specs.Files.{FilesView}
use Rattle.run_files.specs.Asked.{Text, sizes_of}
use Rattle.command.specs.Rounds.{Round, WereRounds}

-- Two command lines ask for the same round 1 on one thread: they have the same tries and sizes, and
-- each of the files, the formula's and the streams', is known to have the same bytes for both.
pub record AskForSameTurns (files : FilesView) (others : FilesView)
    (given other : CommandLine) : Type 0 where
  pub serial : given.serial ≡ true
  pub too : other.serial ≡ true
  pub tries : other.tries ≡ given.tries
  pub sizes : sizes_of other ≡ sizes_of given
  pub text : List ℕ
  pub formula : files.contents given.formula.now ≡ Some text
  pub same_formula : others.contents other.formula.now ≡ Some text
  pub streams : (s : ℕ) (path other_path : Text)
      → IsOfStream given.streams s path → IsOfStream other.streams s other_path
      → (bytes : List ℕ) × (files.contents path ≡ Some bytes)
      × (others.contents other_path ≡ Some bytes)

-- In round 1 of two runs of such command lines, under the same assumed literals, the reports are
-- the same, and so are the verdicts, unless a report says that memory ran out or a read failed. A
-- run without rounds consists of round 1 (`OneRoundAlone`).
abbrev pub SerialOutcomesAgree : FilesView → FilesView → Type 0
SerialOutcomesAgree files others =
    (given other_given : CommandLine) (cube other_cube : CubeValue)
    (round : Round files.its given cube) (other : Round others.its other_given other_cube)
    → WereRounds files given cube round [] → WereRounds others other_given other_cube other []
    → AskForSameTurns files others given other_given
    → other_cube ≡ cube
    → NoneExcused (λ s. true) CutOff round.reports
    → NoneExcused (λ s. true) CutOff other.reports
    → (round.reports ≡ other.reports) × (round.verdict ≡ other.verdict)
