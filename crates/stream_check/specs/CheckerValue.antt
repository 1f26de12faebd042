-- What contracts see of a checker (this project's own).
use Rattle.std.specs.Prelude.{ℕ, Bool, List, Option}
use Rattle.stream_check.specs.declared.report.Ending.{Ending}
use Rattle.stream_check.specs.DroppedIdsValue.{DroppedIdsValue}
use Rattle.stream_check.specs.StreamParams.{StreamParams}
use Rattle.stream_check.specs.declared.report.Report.{Report}

-- how many additions were good, how many identities were deleted, whether an added clause is empty,
-- and whether one is within the cube
pub record Tally : Type 0 where
  pub added : ℕ
  pub deleted : ℕ
  pub empty : Bool
  pub within : Bool

-- the report with these counts and this ending
abbrev pub report_of_tally : Tally → Ending → Report
report_of_tally tally ending =
    record {
      added = tally.added;
      deleted = tally.deleted;
      empty = tally.empty;
      within = tally.within;
      ending = ending;
    }

-- The parameters; the counts; the last identity, the dropped identities, and how many identities
-- were retired; the part of the next line that was read, and that line's number; and how the stream
-- ended, if it did.
pub record CheckerValue : Type 0 where
  pub params : StreamParams
  pub tally : Tally
  pub last : ℕ
  pub dropped : DroppedIdsValue
  pub retired : ℕ
  pub pending : List ℕ
  pub line : ℕ
  pub ending : Option Ending
