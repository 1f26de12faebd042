-- The text of a run's report (this project's own).
use Rattle.std.specs.Prelude.{◌+◌, ◌++◌, ℕ, List, [], ◌∷◌, codes}
use Rattle.std.specs.Fmt.{decimal}
use Rattle.stream_check.specs.Faults.{fault_text}
use Rattle.stream_check.specs.declared.report.Ending.{Ending}
use Rattle.stream_check.specs.declared.report.Ending.TheVariants as endings
use Rattle.stream_check.specs.declared.report.Report.{Report}
use Rattle.run_outcome.specs.declared.outcome.Verdict.{Verdict}
use Rattle.run_outcome.specs.declared.outcome.Verdict.TheVariants as verdicts

abbrev pub ending_text : Ending → List ℕ
ending_text endings.Ended = codes "ended"
ending_text (endings.Bad line fault) =
    codes "bad line " ++ decimal line ++ codes " (" ++ fault_text fault ++ codes ")"
ending_text (endings.ReadFailed line) = codes "read failed at line " ++ decimal line
ending_text (endings.Memory line) = codes "out of memory at line " ++ decimal line

-- these words, the number of a stream (from 1), and the stream's report, ended by LF
abbrev pub line_after : List ℕ → ℕ → Report → List ℕ
line_after words s report =
    words ++ decimal s ++ codes ": " ++ decimal report.added ++ codes " added, "
    ++ decimal report.deleted ++ codes " deleted, "
    ++ ending_text report.ending ++ codes "\n"

-- the line of a stream in a report
abbrev pub stream_line : ℕ → Report → List ℕ
stream_line s report = line_after (codes "c stream ") s report

-- the lines of the reports, of which the first belongs to stream s
abbrev pub stream_lines : ℕ → List Report → List ℕ
stream_lines s [] = []
stream_lines s (report ∷ reports) = stream_line s report ++ stream_lines (s + 1) reports

abbrev pub verdict_line : Verdict → List ℕ
verdict_line verdicts.Unsatisfiable = codes "s UNSATISFIABLE\n"
verdict_line verdicts.UnsatisfiableUnder = codes "s UNSATISFIABLE UNDER ASSUMPTIONS\n"
verdict_line verdicts.Unknown = codes "s UNKNOWN\n"

-- a line for each stream in order, and the line of the verdict
abbrev pub report_text : List Report → Verdict → List ℕ
report_text reports verdict = stream_lines 1 reports ++ verdict_line verdict
