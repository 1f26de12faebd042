-- Why the program doesn't say 'unsatisfiable' although the streams of its rounds are valid (this
-- project's own).
use Rattle.std.specs.Prelude.{◌≡◌, ◌≢◌, ◌⊎◌, ◌<◌, ◌≤◌, ℕ, true, false, List, None, Some}
use Rattle.lrup_model.specs.Cube.{CubeValue}
use Rattle.stream_check.specs.declared.report.Report.{Report}
use Rattle.stream_check.specs.Excuses.{CutOff, IsExcusedAt}
use Rattle.stream_check.specs.Closed.{IsOfStream}
use Rattle.run_outcome.specs.declared.outcome.Verdict.TheVariants.{Unknown, Unsatisfiable, UnsatisfiableUnder}
use Rattle.checkpoint.specs.declared.saving.SaveFault.{SaveFault}
use Rattle.command_line.specs.declared.words.CommandLine.{CommandLine}
use Rattle.run_files.specs.Files.{Effects, FilesView}
use Rattle.command.specs.Commands.{SinkChange}
use Rattle.run_files.specs.Asked.{Text, assumed_at, created_path}
use Rattle.command.specs.Rounds.{EndsWithFault, EndsWithReport, HaveEnded, Round}

-- Some stream of the round was cut off: memory ran out, or a read failed. In a round before the
-- last, this may be any stream, in any line; in the last one, it is stream s, in one of its first
-- `count` lines.
pub record HasStopped {its : Effects} {given : CommandLine} {cube : CubeValue}
    (s count last : ℕ) (round : Round its given cube) : Type 0 where
  pub stream : ℕ
  pub report : Report
  pub says : IsOfStream round.reports stream report
  pub line : ℕ
  pub excused : IsExcusedAt CutOff report line
  pub place : (round.number < last)
      ⊎ ((round.number ≡ last) × (stream ≡ s) × (line ≤ count))

-- Why the report of the round with which the run ended doesn't say 'unsatisfiable', and the status
-- once the report is written. `last` is the number of the round that refutes; a run may end before
-- that round. None of these cases says that a line is wrong.
pub data FallsShort {its : Effects} {given : CommandLine} {cube : CubeValue}
    (s count last : ℕ) (round : Round its given cube)
    (status : ℕ) : Type 0 where
  -- the words ask for a checkpoint or for rounds, and the file couldn't be saved
  not_kept :
      (path : Text) (asked : created_path given.next round.number ≡ Some path)
      (fault : SaveFault) (unsaved : round.unsaved ≡ Some fault)
      (verdict : round.verdict ≢ Unsatisfiable)
      (streams : ((round.number < last) × HaveEnded round.reports)
      ⊎ HasStopped s count last round) (is : status ≡ 9)
      → FallsShort s count last round status
  -- the words ask for assumed literals, and the report says 'unsatisfiable under assumptions'
  under_cube :
      (path : Text) (asked : assumed_at given ≡ Some path)
      (verdict : round.verdict ≡ UnsatisfiableUnder) (saved : round.unsaved ≡ None)
      (streams : ((round.number < last) × HaveEnded round.reports)
      ⊎ HasStopped s count last round) (is : status ≡ 8)
      → FallsShort s count last round status
  -- the report says that a stream was stopped
  stopped :
      (verdict : round.verdict ≡ Unknown) (saved : round.unsaved ≡ None)
      (streams : HasStopped s count last round) (is : status ≡ 3)
      → FallsShort s count last round status

-- Why the program doesn't say 'unsatisfiable'. `ends` says what it wrote to `out` and `err`: to
-- `out` the report of the round with which the run ended, or a prefix of the report if `out`
-- failed; without a report, nothing to `out` and the fault's message to `err`.
pub data InconclusiveBecause (files : FilesView) (words : List Text)
    (s count last : ℕ) (after : files.its.State)
    (out err : SinkChange) (status : ℕ) : Type 0 where
  -- the report couldn't be written, and says 'unsatisfiable' or falls short of it
  unwritten :
      (ends : EndsWithReport files words after out err status) (failed : out.failed ≡ true)
      (few : ends.last.number ≤ last)
      (says : (ends.last.verdict ≡ Unsatisfiable)
      ⊎ ((written : ℕ) × FallsShort s count last ends.last written)) (is : status ≡ 7)
      → InconclusiveBecause files words s count last after out err status
  -- there is no report, because of a fault of the machine: a file wasn't opened or created, or a
  -- read of the formula, of the assumed literals or of sizes failed (5); or memory ran out, a
  -- thread wasn't started, or a ring lost the end of a stream (6)
  no_report :
      (ends : EndsWithFault files words after out err status) (few : ends.number ≤ last)
      (is : (status ≡ 5) ⊎ (status ≡ 6))
      → InconclusiveBecause files words s count last after out err status
  -- the report was written, and falls short of 'unsatisfiable'
  short :
      (ends : EndsWithReport files words after out err status) (written : out.failed ≡ false)
      (why : FallsShort s count last ends.last status)
      → InconclusiveBecause files words s count last after out err status
