-- How far the rounds have come: definitions for contracts of private functions (this project's
-- own).
use Rattle.std.specs.Option.{ForSome}
use Rattle.std.specs.Prelude.{◌+◌, ◌∷◌, ◌≡◌, ◌⊎◌, List, None, Option, length}
use Rattle.lrup_model.specs.Cube.{CubeValue}
use Rattle.lrup_model.specs.Formula.{Cnf}
use Rattle.command_line.specs.declared.sizes.Sizes.{Sizes}
use Rattle.command_line.specs.declared.words.CommandLine.{CommandLine}
use Rattle.run_files.specs.Asked.{Text, created_path, run_params_by, sizes_of}
use Rattle.run_files.specs.Causes.{IsRoundStartCause}
use Rattle.run_files.specs.Files.{AreSized, Effects, FilesView}
use Rattle.run_files.specs.Paths.{sizes_path, stream_path}
use Rattle.run_files.specs.Saving.{SavesCheckpoint}
use Rattle.command.specs.Commands.{AreChecked}
use Rattle.command.specs.Rounds.{AreRounds, CarriesOn, IsBarred, IsNextCause, LeavesAtPath, Round, RoundsEnd, WereRounds}
use Rattle.command.specs.declared.course.CheckedRound.{CheckedRound}
use Rattle.command.specs.declared.course.RoundFault.{RoundFault}

-- The streams of a round with this formula, opened as these readers, were checked, and `last` is
-- what was found; `leaves` says what became of their clauses.
pub record WasChecked (its : Effects) (given : CommandLine) (cube : CubeValue) (formula : Cnf)
    (readers : List its.Reader) (opened : its.State) (last : CheckedRound) (next : Option Cnf)
    (after : its.State) : Type 0 where
  pub count : length readers ≡ last.sizes.streams
  pub checked : AreChecked its.reading given.serial formula
      (run_params_by given cube formula last.sizes) readers last.reports.items
      last.verdict
  pub leaves : LeavesAtPath its
      (SavesCheckpoint its formula (run_params_by given cube formula last.sizes).layout
      checked.ran.run.history checked.dropped)
      last.verdict opened (created_path given.next last.number) last.unsaved next after

-- the round that was checked in this way
abbrev pub round_of : {its : Effects} {given : CommandLine} {cube : CubeValue} (formula : Cnf)
    (readers : List its.Reader) (opened : its.State) (last : CheckedRound) (next : Option Cnf)
    (after : its.State)
    → WasChecked its given cube formula readers opened last next after → Round its given cube
round_of formula readers opened last next after was = record {
  number = last.number;
  formula = formula;
  sizes = last.sizes;
  readers = readers;
  opened = opened;
  reports = last.reports.items;
  verdict = last.verdict;
  unsaved = last.unsaved;
  next = next;
  after = after;
  count = was.count;
  checked = was.checked;
  leaves = was.leaves;
}

-- The round's streams were checked. The run continues with the next formula, if there is one;
-- otherwise it doesn't continue.
pub record WasFound (its : Effects) (given : CommandLine) (cube : CubeValue) (formula : Cnf)
    (readers : List its.Reader) (opened : its.State) (last : CheckedRound) (next : Option Cnf)
    (after : its.State) : Type 0 where
  pub was : WasChecked its given cube formula readers opened last next after
  pub goes_on : ForSome next
      (CarriesOn (round_of formula readers opened last next after was))
  pub finished : next ≡ None → IsBarred (round_of formula readers opened last next after was)

-- The rounds up to this one were checked and left these files. The run continues exactly if there
-- is a next formula.
pub record RoundsSoFar (its : Effects) (given : CommandLine) (cube : CubeValue) (formula : Cnf)
    (first : its.State) (last : CheckedRound) (next : Option Cnf) (after : its.State) : Type 0 where
  pub current : Cnf
  pub readers : List its.Reader
  pub opened : its.State
  pub is_found : WasFound its given cube current readers opened last next after
  pub before : List (Round its given cube)
  pub rounds : AreRounds formula first
      (round_of current readers opened last next after is_found.was ∷ before)

-- No round follows this one in the folder: the sizes of the next round were read, and there is no
-- file for its stream 1.
abbrev pub IsAlone : (its : Effects) → Text → CheckedRound → its.State → its.State → Type 0
IsAlone its folder last before after =
    (sizes : Sizes) × (sized : its.State)
    × AreSized its (sizes_path folder (last.number + 1)) last.sizes before sizes sized
    × its.lacks sized (stream_path folder (last.number + 1) 1) after

-- What the program keeps of its last round comes from this round.
pub record IsOfRound {its : Effects} {given : CommandLine} {cube : CubeValue} (last : CheckedRound)
    (round : Round its given cube) : Type 0 where
  pub number : last.number ≡ round.number
  pub reports : last.reports.items ≡ round.reports
  pub verdict : last.verdict ≡ round.verdict
  pub unsaved : last.unsaved ≡ round.unsaved

-- The rounds ended with this one and left these files.
pub record EndsAt (its : Effects) (given : CommandLine) (cube : CubeValue) (formula : Cnf)
    (first : its.State) (last : CheckedRound) (after : its.State) : Type 0 where
  pub round : Round its given cube
  pub before : List (Round its given cube)
  pub rounds : AreRounds formula first (round ∷ before)
  pub is : IsOfRound last round
  pub finished : RoundsEnd round after

-- Some rounds were checked, but the next one has no report because of this fault, and leaves these
-- files.
pub record FailsAfter (its : Effects) (given : CommandLine) (cube : CubeValue) (formula : Cnf)
    (first : its.State) (failed : RoundFault) (after : its.State) : Type 0 where
  pub last : Round its given cube
  pub before : List (Round its given cube)
  pub rounds : AreRounds formula first (last ∷ before)
  pub number : failed.round ≡ last.number + 1
  pub cause : IsNextCause last failed.fault after

-- The fault is in round 1, after that round's streams were opened; or in a later round.
abbrev pub FailsAt : (its : Effects) → CommandLine → CubeValue → Cnf → its.State
    → List its.Reader → its.State → RoundFault → its.State → Type 0
FailsAt its given cube formula first readers opened failed after =
    ((failed.round ≡ 1)
    × IsRoundStartCause its given cube 1 formula (sizes_of given) readers opened failed.fault after)
    ⊎ FailsAfter its given cube formula first failed after

-- The rounds of a command line ended with this one and left these files.
pub record IsReported (files : FilesView) (given : CommandLine) (last : CheckedRound)
    (after : files.its.State) : Type 0 where
  pub cube : CubeValue
  pub round : Round files.its given cube
  pub before : List (Round files.its given cube)
  pub were : WereRounds files given cube round before
  pub is : IsOfRound last round
  pub finished : RoundsEnd round after
