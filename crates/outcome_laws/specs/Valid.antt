-- Words that ask for streams that are valid proofs (this project's own).
use Rattle.std.specs.Prelude.{◌≡◌, ◌≢◌, ◌+◌, ◌<◌, ◌≤◌, ◌^◌, ℕ, IfSome, List, length, Option, Some}
use Rattle.lrup_model.specs.Cube.{CubeValue}
use Rattle.lrup_model.specs.Formula.{Cnf}
use Rattle.lrup_model.specs.Layout.{IsFault, LayoutValue}
use Rattle.lrup_model.specs.declared.layout.LayoutFault.{LayoutFault}
use Rattle.lrup_text.specs.Lines.{StreamLine}
use Rattle.lrup_text.specs.Cubes.{IsCubeFault}
use Rattle.lrup_text.specs.declared.cube.CubeFault.{CubeFault}
use Rattle.lrup_text.specs.declared.cube.CubeFault.TheVariants as cubes
use Rattle.dimacs.specs.FormulaText.{IsFormulaText}
use Rattle.stream_check.specs.Closed.{IsOfStream}
use Rattle.run_laws.specs.Valid.{IsValidRefutation, IsValidProof}
use Rattle.command_line.specs.CommandLine.{IsCommandLineOf, rounds_of}
use Rattle.command_line.specs.declared.sizes.Sizes.{Sizes}
use Rattle.command_line.specs.declared.words.CommandLine.{CommandLine}
use Rattle.run_files.specs.Files.{AreSized, Effects, FilesView}
use Rattle.run_files.specs.Asked.{Text, assumed_at, sizes_of}
use Rattle.run_files.specs.Paths.{sizes_path, stream_path, stream_paths}
use Rattle.command.specs.Rounds.{CarriesOn, Round, WereRounds}
use Rattle.run_files.specs.Causes.{HoldsNoSizes}
use Rattle.outcome_laws.specs.Outcomes.{layout_in}

-- The words ask for a formula, whose file holds a text of a formula; for assumed literals, if any,
-- whose file holds bytes without a fault; and for streams that have a layout. Nothing else is
-- required of the streams.
pub record AskWell (files : FilesView) (words : List Text) : Type 0 where
  pub given : CommandLine
  pub command_line : IsCommandLineOf words given
  pub text : List ℕ
  pub known : files.contents given.formula.now ≡ Some text
  pub formula : Cnf
  pub is_text : IsFormulaText text formula
  pub layout : (fault : LayoutFault) → ¬ IsFault (layout_in formula (sizes_of given)) fault
  pub assumptions : IfSome (assumed_at given) (λ path. (bytes : List ℕ)
      × (files.contents path ≡ Some bytes)
      × ((fault : CubeFault) → fault ≢ cubes.Memory → ¬ IsCubeFault formula.vars bytes fault))

-- A requirement on the streams of a round. It depends on the round's formula and layout, on what
-- the files are known to hold before the streams are opened, and on the streams' paths.
abbrev pub RoundAsk : Type 1
RoundAsk = Cnf → LayoutValue → (Text → Option (List ℕ)) → List Text → Type 0

-- each stream is valid, and cites only its own clauses and the formula's: its file holds the texts
-- of valid lines, and nothing else
abbrev pub AreValidAlone : RoundAsk
AreValidAlone formula layout contents paths =
    (s : ℕ) (path : Text) → IsOfStream paths s path
    → (bytes : List ℕ) × (lines : List StreamLine) × (contents path ≡ Some bytes)
    × IsValidProof formula layout s bytes lines

-- the file of stream s begins with a valid refutation of at most `count` lines; nothing is required
-- of the other streams
abbrev pub IsRefutedAlone : (s count : ℕ) → RoundAsk
IsRefutedAlone s count formula layout contents paths =
    (path : Text) × (bytes : List ℕ) × IsOfStream paths s path × (contents path ≡ Some bytes)
    × ((valid : IsValidRefutation formula layout s bytes) × (length valid.lines ≤ count))

-- the round with this number meets `Before` if it comes before the last round, and `Last` if it is
-- the last
pub record IsAskedOf (Before Last : RoundAsk) (last number : ℕ) (formula : Cnf) (sizes : Sizes)
    (contents : Text → Option (List ℕ)) (paths : List Text) : Type 0 where
  pub earlier : number < last → Before formula (layout_in formula sizes) contents paths
  pub at_last : number ≡ last → Last formula (layout_in formula sizes) contents paths

-- A later round, whose sizes aren't known yet, is provided for: its file of sizes, if there is one,
-- holds sizes; and with these sizes, or with the old ones if there is no such file, there is a file
-- for its stream 1, the streams have a layout, and they meet the requirement.
pub record IsProvided (Before Last : RoundAsk) (last : ℕ) (its : Effects) (folder : Text)
    (number : ℕ)
    (old : Sizes) (formula : Cnf) (before : its.State) : Type 0 where
  pub sizes : (after : its.State) → ¬ HoldsNoSizes its before (sizes_path folder number) after
  pub ready : (sizes : Sizes) (sized : its.State)
      → AreSized its (sizes_path folder number) old before sizes sized
      → ((after : its.State) → ¬ its.lacks sized (stream_path folder number 1) after)
      × ((fault : LayoutFault) → ¬ IsFault (layout_in formula sizes) fault)
      × IsAskedOf Before Last last number formula sizes (its.contents sized)
      (stream_paths folder number sizes.streams)

-- The words satisfy `AskWell`, and ask for rounds in a folder unless round 1 is the last one. The
-- number of the last round is from 1 to 2 ^ 64 - 2. The streams of round 1 are as required. And
-- each later round up to the last is provided for, whatever course a run of these words takes: with
-- threads, the formula of a round depends on how the threads ran.
pub record AskForValidRounds (Before Last : RoundAsk) (files : FilesView) (words : List Text)
    (last : ℕ) : Type 0 where
  pub asks : AskWell files words
  pub some : 0 < last
  pub few : last + 2 ≤ 2 ^ 64
  pub rounds : 1 < last → (folder : Text) × (rounds_of asks.given.next ≡ Some folder)
  pub first : IsAskedOf Before Last last 1 asks.formula (sizes_of asks.given) files.contents
      asks.given.streams
  pub later : (given : CommandLine) (cube : CubeValue) (round : Round files.its given cube)
      (before : List (Round files.its given cube)) (next : Cnf)
      → IsCommandLineOf words given → WereRounds files given cube round before
      → round.number < last → (on : CarriesOn round next)
      → IsProvided Before Last last files.its on.folder (round.number + 1)
      round.sizes next round.after
