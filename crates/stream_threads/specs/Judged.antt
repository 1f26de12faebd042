-- How the bytes received by a checking thread are judged.
use Rattle.std.specs.Prelude.{◌≡◌, ℕ, List, [], Option, None, Some}
use Rattle.lrup_model.specs.Event.{History}
use Rattle.lrup_text.specs.declared.device.StreamEnd.{StreamEnd}
use Rattle.stream_check.specs.declared.report.Ending.{Ending}
use Rattle.stream_check.specs.declared.report.Report.{Report}
use Rattle.stream_check.specs.Checker.{checker_state, Extends}
use Rattle.stream_check.specs.CheckerValue.{report_of_tally, CheckerValue}
use Rattle.stream_check.specs.DroppedIdsValue.{DroppedIdsValue}
use Rattle.stream_check.specs.Judging.{ending_at, JudgesBlocks}
use Rattle.stream_check.specs.Reaching.{ReachesState}
use Rattle.stream_check.specs.Stopping.{IsFullAtMemory}
use Rattle.stream_threads.specs.Items.{EndsAtMark}

-- the ending of a checker after this end of its stream; if it was finished before, it keeps its
-- ending
abbrev pub ending_with : Option Ending → StreamEnd → CheckerValue → Ending
ending_with None end checker = ending_at end checker.pending checker.line
ending_with (Some ending) end checker = ending

-- A checker with this room takes the bytes, whose lines have these blocks of events, and then has
-- dropped these identities; the report is the one that the checker gives for some end of the
-- stream. If memory ran out, there is no room for another identity.
pub record DropsBy (checker : CheckerValue) (room : ℕ) (bytes : List ℕ) (blocks : List History)
    (dropped : DroppedIdsValue) (report : Report) : Type 0 where
  pub last : CheckerValue
  pub free : ℕ
  pub left : Extends checker.params (checker_state checker room) bytes blocks
      (checker_state last free)
  pub are : dropped ≡ last.dropped
  pub end : StreamEnd
  pub reports : report ≡ report_of_tally last.tally (ending_with last.ending end last)
  pub full : IsFullAtMemory report.ending dropped

-- The received items end with a mark. If the checker had this room and had taken no byte, the
-- report judges the bytes before the mark, with the end that the mark stands for and these blocks
-- of events. The lines drop these identities.
pub record JudgesAtMark (checker : CheckerValue) (room : ℕ) (items : List ℕ) (blocks : List History)
    (lines_dropped : DroppedIdsValue) (report : Report) : Type 0 where
  pub bytes : List ℕ
  pub end : StreamEnd
  pub marked : EndsAtMark bytes end items
  pub dropped : DropsBy checker room bytes blocks lines_dropped report
  pub judged : ReachesState checker.params [] [] (checker_state checker room)
      → JudgesBlocks checker.params bytes end blocks report
