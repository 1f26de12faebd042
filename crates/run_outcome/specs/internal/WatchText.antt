-- The lines of `--watch` (this project's own).
use Rattle.std.specs.Prelude.{◌++◌, ℕ, List, codes}
use Rattle.std.specs.Fmt.{decimal}
use Rattle.stream_check.specs.declared.report.Report.{Report}
use Rattle.run_outcome.specs.ReportText.{line_after}

-- the line for a finished stream
abbrev pub finished_line : ℕ → Report → List ℕ
finished_line s report = line_after (codes "lrupd: stream ") s report

-- the line for a stream that has waited for the clause of an identity
abbrev pub wait_line : ℕ → ℕ → List ℕ
wait_line s id =
    codes "lrupd: stream " ++ decimal s ++ codes ": waits for " ++ decimal id ++ codes "\n"

-- the line that says how many clauses a stream has added so far
abbrev pub count_line : ℕ → ℕ → List ℕ
count_line s added =
    codes "lrupd: stream " ++ decimal s ++ codes ": " ++ decimal added ++ codes " added\n"
