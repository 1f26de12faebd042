-- A run is a list of rounds: each starts from what the one before it saved (this project's own).
use Rattle.std.specs.Fmt.{decimal}
use Rattle.std.specs.List.{AllByRecursion}
use Rattle.std.specs.Option.{ForSome}
use Rattle.std.specs.Prelude.{if◌then◌else◌, ◌++◌, ◌+◌, ◌<◌, ◌==◌, ◌^◌, ◌∷◌, ◌≡◌, ◌⊎◌, List, None, Option, Result, Some, [], codes, length, ℕ}
use Rattle.lrup_model.specs.Cube.{CubeValue}
use Rattle.lrup_model.specs.Formula.{Cnf}
use Rattle.stream_check.specs.declared.report.Ending.TheVariants as endings
use Rattle.stream_check.specs.declared.report.Report.{Report}
use Rattle.checkpoint.specs.Checkpoints.{IsCheckpoint}
use Rattle.checkpoint.specs.declared.saving.SaveFault.{SaveFault}
use Rattle.run_outcome.specs.ReportText.{report_text}
use Rattle.run_outcome.specs.declared.outcome.Verdict.{Verdict}
use Rattle.run_outcome.specs.declared.outcome.Verdict.TheVariants.{Unknown, Unsatisfiable}
use Rattle.command_line.specs.CommandLine.{AskForRounds, IsCommandLineOf, rounds_of}
use Rattle.command_line.specs.declared.sizes.Sizes.{Sizes}
use Rattle.command_line.specs.declared.words.CommandLine.{CommandLine}
use Rattle.run_files.specs.Asked.{Text, assumed_at, created_path, run_params_by, sizes_of}
use Rattle.run_files.specs.Causes.{IsCause, IsRoundStartCause, IsSizesCause, IsStreamCause}
use Rattle.run_files.specs.Faults.{round_error_text, status_of}
use Rattle.run_files.specs.Files.{AreAssumed, AreSized, Effects, FilesView, IsFormulaAt, IsLeftEmpty, StreamsOpened, WasReadIn, WasSavedBy}
use Rattle.run_files.specs.Paths.{formula_path, sizes_path, stream_path, stream_paths}
use Rattle.run_files.specs.Saving.{ClosesSink, SavesCheckpoint}
use Rattle.run_files.specs.declared.fault.CommandFault.{CommandFault}
use Rattle.command.specs.Commands.{AreChecked, IsUntouched, SaysOfRound, SinkChange, SinkTook, report_status}

-- all streams ended
abbrev pub HaveEnded : List Report → Type 0
HaveEnded reports = AllByRecursion (λ report. report.ending ≡ endings.Ended) reports

-- The program created a file at the path, tried to save the checkpoint to it, and closed it. If its
-- contents are known, it was empty at first.
pub record LeavesFile (its : Effects)
    (Saves : Result (Option Cnf) SaveFault → its.Output → its.Output → Type 0) (before : its.State)
    (path : Text) (unsaved : Option SaveFault) (next : Option Cnf)
    (after : its.State) : Type 0 where
  pub first : its.Output
  pub opened : its.State
  pub created : its.creates before path first opened
  pub empty : ForSome (its.written first) (λ all. all ≡ [])
  pub result : Result (Option Cnf) SaveFault
  pub last : its.Output
  pub saving : Saves result first last
  pub closed : ClosesSink its result opened last unsaved next after

-- What a round with this verdict leaves at the path; why the checkpoint wasn't saved, if it wasn't;
-- and the next formula, if there is one. Without a path: nothing. With 'unsatisfiable': a new file,
-- discarded before anything was written to it. Otherwise: a new file, to which the program tried to
-- save the checkpoint.
abbrev pub LeavesAtPath : (its : Effects)
    → (Result (Option Cnf) SaveFault → its.Output → its.Output → Type 0) → Verdict → its.State
    → Option Text → Option SaveFault → Option Cnf → its.State → Type 0
LeavesAtPath its Saves verdict before None unsaved next after =
    (unsaved ≡ None) × (next ≡ None) × (after ≡ before)
LeavesAtPath its Saves Unsatisfiable before (Some path) unsaved next after =
    (unsaved ≡ None) × (next ≡ None)
    × IsLeftEmpty its.creates its.written its.discards before path after
LeavesAtPath its Saves verdict before (Some path) unsaved next after =
    LeavesFile its Saves before path unsaved next after

-- A round: its number, formula and sizes; the readers of its streams as they were opened, and the
-- files at that point; its reports and its verdict; why its checkpoint wasn't saved, if it wasn't;
-- the next formula, if there is one; and the files at its end. Its streams were checked, and
-- `leaves` says what became of their clauses.
pub record Round (its : Effects) (given : CommandLine) (cube : CubeValue) : Type 0 where
  pub number : ℕ
  pub formula : Cnf
  pub sizes : Sizes
  pub readers : List its.Reader
  pub opened : its.State
  pub reports : List Report
  pub verdict : Verdict
  pub unsaved : Option SaveFault
  pub next : Option Cnf
  pub after : its.State
  pub count : length readers ≡ sizes.streams
  pub checked : AreChecked its.reading given.serial formula (run_params_by given cube formula sizes)
      readers reports verdict
  pub leaves : LeavesAtPath its
      (SavesCheckpoint its formula (run_params_by given cube formula sizes).layout
      checked.ran.run.history checked.dropped)
      verdict opened (created_path given.next number) unsaved next after

-- The run continues after this round: the words ask for rounds in a folder, the verdict is
-- 'unknown', all streams ended, and the checkpoint, a text of the next formula, was saved.
pub record CarriesOn {its : Effects} {given : CommandLine} {cube : CubeValue}
    (round : Round its given cube) (next : Cnf) : Type 0 where
  pub folder : Text
  pub asked : rounds_of given.next ≡ Some folder
  pub verdict : round.verdict ≡ Unknown
  pub ended : HaveEnded round.reports
  pub unsaved : round.unsaved ≡ None
  pub next_is : round.next ≡ Some next

-- The run doesn't continue after this round: the words ask for no rounds, the verdict isn't
-- 'unknown', the checkpoint wasn't saved, or a stream didn't end.
abbrev pub IsBarred : {its : Effects} {given : CommandLine} {cube : CubeValue}
    → Round its given cube
    → Type 0
IsBarred {given = given} round =
    (rounds_of given.next ≡ None) ⊎ ((¬ (round.verdict ≡ Unknown))
    ⊎ (((fault : SaveFault) × (round.unsaved ≡ Some fault)) ⊎ (¬ HaveEnded round.reports)))

-- A round follows another: it has the next number and the formula that the other one saved, its
-- sizes were read, and then its streams were opened.
pub record ComesNext {its : Effects} {given : CommandLine} {cube : CubeValue}
    (before round : Round its given cube) : Type 0 where
  pub number : round.number ≡ before.number + 1
  pub goes_on : CarriesOn before round.formula
  pub sized : its.State
  pub sizes : AreSized its (sizes_path goes_on.folder round.number) before.sizes before.after
      round.sizes sized
  pub opened : StreamsOpened its sized
      (stream_paths goes_on.folder round.number round.sizes.streams) round.readers round.opened

-- Round 1, with this formula, starting from these files: the command line gives its sizes and its
-- streams.
pub record IsFirst {its : Effects} {given : CommandLine} {cube : CubeValue} (formula : Cnf)
    (first : its.State) (round : Round its given cube) : Type 0 where
  pub number : round.number ≡ 1
  pub formula_is : round.formula ≡ formula
  pub sizes_are : round.sizes ≡ sizes_of given
  pub opened : StreamsOpened its first given.streams round.readers round.opened

-- Rounds, listed from the last one back to round 1. Round 1 has this formula and starts from these
-- files, and each other round follows the one before it. So the last round's number is the length
-- of the list.
abbrev pub AreRounds : {its : Effects} {given : CommandLine} {cube : CubeValue} → Cnf → its.State
    → List (Round its given cube) → Type 0
AreRounds formula first [] = ⊥
AreRounds formula first (round ∷ []) = IsFirst formula first round
AreRounds formula first (round ∷ before ∷ more) =
    ComesNext before round × AreRounds formula first (before ∷ more)

-- why there is no round after the last one, and the files at the end: the run doesn't continue; or
-- it would continue, but the next round has sizes and no file for its stream 1, or the next round's
-- number would be 2 ^ 64 - 1 or more
abbrev pub RoundsEnd : {its : Effects} {given : CommandLine} {cube : CubeValue}
    → Round its given cube
    → its.State → Type 0
RoundsEnd {its} last after =
    (IsBarred last × (after ≡ last.after))
    ⊎ ((next : Cnf) × (on : CarriesOn last next)
    × (((sizes : Sizes) × (sized : its.State)
    × AreSized its (sizes_path on.folder (last.number + 1)) last.sizes last.after sizes sized
    × its.lacks sized (stream_path on.folder (last.number + 1) 1) after)
    ⊎ ((2 ^ 64 < last.number + 3) × (after ≡ last.after))))

-- Causes.

-- why the round with this number and this formula, after a round with the old sizes, has no report:
-- its sizes weren't read; or they were, but a stream wasn't opened; or all streams were opened, but
-- not checked
abbrev pub IsRoundCause : (its : Effects) → CommandLine → CubeValue → Text → ℕ → Sizes → Cnf
    → its.State → CommandFault → its.State → Type 0
IsRoundCause its given cube folder number old formula before fault after =
    IsSizesCause its before (sizes_path folder number) fault after
    ⊎ ((sizes : Sizes) × (sized : its.State)
    × AreSized its (sizes_path folder number) old before sizes sized
    × (IsStreamCause its sized folder number sizes.streams fault after
    ⊎ ((readers : List its.Reader) × (opened : its.State)
    × StreamsOpened its sized (stream_paths folder number sizes.streams) readers opened
    × IsRoundStartCause its given cube number formula sizes readers opened fault after)))

-- why the round after this one has no report although the run continues, and the files at that
-- point
abbrev pub IsNextCause : {its : Effects} {given : CommandLine} {cube : CubeValue}
    → Round its given cube → CommandFault → its.State → Type 0
IsNextCause {its} {given} {cube} last fault after =
    (next : Cnf) × (on : CarriesOn last next)
    × IsRoundCause its given cube on.folder (last.number + 1) last.sizes next last.after fault after

-- The output.

-- the line with a round's number, from round 2 on
abbrev pub round_text : ℕ → List ℕ
round_text number = codes "c round " ++ decimal number ++ codes "\n"

-- the report of the last round; from round 2 on, it comes after the line with the round's number
abbrev pub last_text : ℕ → List Report → Verdict → List ℕ
last_text number reports verdict =
    (if number == 1 then [] else round_text number) ++ report_text reports verdict

-- The formula and the assumed literals were read, and then these rounds were checked.
pub record WereRounds (files : FilesView) (given : CommandLine) (cube : CubeValue)
    (last : Round files.its given cube) (before : List (Round files.its given cube)) : Type 0 where
  pub formula : Cnf
  pub next : files.its.State
  pub is_formula : IsFormulaAt files given.formula.now formula next
  pub later : files.its.State
  pub assumed : AreAssumed (WasReadIn files) formula.vars next (assumed_at given) cube later
  pub known : files.its.contents later ≡ files.contents
  pub rounds : AreRounds formula later (last ∷ before)

-- The words give a command line. The program ends with the report of the last round and leaves
-- these files.
pub record EndsWithReport (files : FilesView) (words : List Text) (after : files.its.State)
    (out err : SinkChange) (status : ℕ) : Type 0 where
  pub given : CommandLine
  pub command_line : IsCommandLineOf words given
  pub cube : CubeValue
  pub last : Round files.its given cube
  pub before : List (Round files.its given cube)
  pub were : WereRounds files given cube last before
  pub finished : RoundsEnd last after
  pub printed : SinkTook out (last_text last.number last.reports last.verdict)
  pub said : SaysOfRound last.number out.failed last.unsaved err
  pub status_is : status ≡ report_status out.failed last.unsaved last.verdict

-- The words give a command line, and the round with this number, which follows others, has no
-- report because of this fault.
pub record FailsLater (files : FilesView) (words : List Text) (number : ℕ) (fault : CommandFault)
    (after : files.its.State) : Type 0 where
  pub given : CommandLine
  pub command_line : IsCommandLineOf words given
  pub cube : CubeValue
  pub last : Round files.its given cube
  pub before : List (Round files.its given cube)
  pub were : WereRounds files given cube last before
  pub number_is : number ≡ last.number + 1
  pub cause : IsNextCause last fault after

-- why the round with this number has no report, and the files at that point
abbrev pub IsCauseIn : (files : FilesView) → List Text → ℕ → CommandFault → files.its.State → Type 0
IsCauseIn files words number fault after =
    ((number ≡ 1) × IsCause files words fault after)
    ⊎ FailsLater files words number fault after

-- A round has no report. The program writes only the cause, to standard error, and leaves these
-- files.
pub record EndsWithFault (files : FilesView) (words : List Text) (after : files.its.State)
    (out err : SinkChange) (status : ℕ) : Type 0 where
  pub number : ℕ
  pub fault : CommandFault
  pub cause : IsCauseIn files words number fault after
  pub untouched : IsUntouched out
  pub said : SinkTook err (round_error_text number fault)
  pub status_is : status ≡ status_of fault

-- How the program ends: with a report, or without one.
abbrev pub ProgramEnds : (files : FilesView) → List Text → files.its.State → SinkChange → SinkChange
    → ℕ → Type 0
ProgramEnds files words after out err status =
    EndsWithReport files words after out err status ⊎ EndsWithFault files words after out err status

-- What rounds saved.

-- For the next round, this round saved in the folder a text of a formula over the same variables.
-- The clauses of that formula all follow from `formula`.
abbrev pub SavesEntailed : {its : Effects} {given : CommandLine} {cube : CubeValue} → Text → Cnf
    → Round its given cube → Type 0
SavesEntailed {its} folder formula round =
    (bytes : List ℕ)
    × WasSavedBy its round.opened (formula_path folder (round.number + 1)) bytes round.after
    × IsCheckpoint formula bytes

-- `SavesEntailed` holds for each of these rounds
abbrev pub SaveEntailed : {its : Effects} {given : CommandLine} {cube : CubeValue} → Text → Cnf
    → List (Round its given cube) → Type 0
SaveEntailed folder formula [] = Unit {0}
SaveEntailed folder formula (round ∷ before) =
    SavesEntailed folder formula round × SaveEntailed folder formula before

-- The program ends with a report after some rounds. The rounds before the last each saved, for the
-- next round, a text of a formula over the same variables, whose clauses all follow from FORMULA.
-- With status 3 or 8, the last round did so, too.
pub record ReportsEntailed (files : FilesView) (words : List Text) (folder : Text)
    (after : files.its.State) (out err : SinkChange) (status : ℕ) : Type 0 where
  pub ending : EndsWithReport files words after out err status
  pub saved : SaveEntailed folder ending.were.formula ending.before
  pub last_saved : (status ≡ 3) ⊎ (status ≡ 8)
      → SavesEntailed folder ending.were.formula ending.last

-- If the words ask for rounds, and the status says that a report was written (0, 3, 8 or 9), the
-- program ended as `ReportsEntailed` says.
abbrev pub RoundsEntailed : (files : FilesView) → List Text → files.its.State → SinkChange
    → SinkChange → ℕ → Type 0
RoundsEntailed files words after out err status =
    (folder : Text) → AskForRounds words folder
    → (status ≡ 0) ⊎ ((status ≡ 3) ⊎ ((status ≡ 8) ⊎ (status ≡ 9)))
    → ReportsEntailed files words folder after out err status
