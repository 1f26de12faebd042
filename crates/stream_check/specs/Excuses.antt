-- Reasons why a report may differ from what the stream's lines call for (this project's own).
use Rattle.std.specs.Prelude.{◌≡◌, ◌⊎◌, ℕ}
use Rattle.stream_check.specs.declared.fault.Fault.TheVariants as faults
use Rattle.stream_check.specs.declared.params.Ownership.TheVariants as ownerships
use Rattle.stream_check.specs.declared.report.Ending.TheVariants as endings
use Rattle.stream_check.specs.declared.report.Report.{Report}
use Rattle.stream_check.specs.StreamParams.{StreamParams, ownership_of}

-- the excuse
pub data Excuse : Type 0 where
  -- memory ran out
  OutOfMemory : Excuse
  -- a read failed
  ReadFailed : Excuse
  -- memory ran out, or a read failed
  CutOff : Excuse
  -- memory ran out, or a read failed, or the line cites or imports another stream's clause
  -- (according to these parameters), and the clause wasn't there yet or was no longer there
  Lacking : (params : StreamParams) → Excuse

-- the report says that this happened in the line with this number
abbrev pub IsExcusedAt : Excuse → Report → ℕ → Type 0
IsExcusedAt OutOfMemory report line = report.ending ≡ endings.Memory line
IsExcusedAt ReadFailed report line = report.ending ≡ endings.ReadFailed line
IsExcusedAt CutOff report line =
    (report.ending ≡ endings.Memory line) ⊎ (report.ending ≡ endings.ReadFailed line)
IsExcusedAt (Lacking params) report line =
    ((report.ending ≡ endings.Memory line) ⊎ (report.ending ≡ endings.ReadFailed line))
    ⊎ ((id : ℕ) × (ownership_of params id ≡ ownerships.Foreign)
    × ((report.ending ≡ endings.Bad line (faults.Missing id))
    ⊎ (report.ending ≡ endings.Bad line (faults.Retired id))))

-- the report says that this happened in some line
abbrev pub IsExcused : Excuse → Report → Type 0
IsExcused excuse report = (line : ℕ) × IsExcusedAt excuse report line
