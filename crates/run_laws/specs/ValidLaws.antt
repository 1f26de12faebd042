-- Laws of valid proofs. Each is the contract of a function in a module of laws.
use Rattle.std.specs.Prelude.{◌≡◌, ◌⊎◌, ◌↔◌, ◌≤◌, ◌++◌, ℕ, IsTrue, List, length, Some}
use Rattle.std.specs.List.{Any, sum_by}
use Rattle.lrup_model.specs.Formula.{Cnf, IsCnf}
use Rattle.lrup_model.specs.Layout.{LayoutValue, IsLayout, Fits, IsStream}
use Rattle.lrup_text.specs.Lines.{StreamLine}
use Rattle.lrup_text.specs.declared.device.StreamEnd.TheVariants as stream_ends
use Rattle.stream_check.specs.declared.report.Report.{Report}
use Rattle.stream_check.specs.Excuses.{CutOff, IsExcused, IsExcusedAt}
use Rattle.stream_check.specs.StreamContext.{deleted_by}
use Rattle.stream_check.specs.Closed.{IsOfStream, CiteWithin}
use Rattle.stream_check.specs.Streams.{InputObservation, RunParamsValue}
use Rattle.run_laws.specs.Groups.{one, IsReportAlone, IsRun}
use Rattle.run_laws.specs.Valid.{AddsEmpty, IsValidProof, SaysAtLeast, valid_report}

-- a valid proof cites and imports no clause of another stream
abbrev pub ValidCiteWithin : Type 0
ValidCiteWithin = (f : Cnf) (p : LayoutValue) (s : ℕ) (bytes : List ℕ) (lines : List StreamLine)
    → Fits p f → IsValidProof f p s bytes lines → CiteWithin p (one s) bytes

-- Valid proofs are accepted: on its own, a valid proof may have the report that says that it ended,
-- with its additions and deletions counted.
abbrev pub ValidAccepted : Type 0
ValidAccepted =
    (f : Cnf) (run_params : RunParamsValue) (s : ℕ) (bytes : List ℕ) (lines : List StreamLine)
    → IsCnf f → Fits run_params.layout f → IsStream run_params.layout s
    → IsValidProof f run_params.layout s bytes lines
    → IsReportAlone f run_params s bytes stream_ends.Ended (valid_report run_params s lines)

-- On its own, a valid proof has only its valid report.
abbrev pub ValidHasOneReport : Type 0
ValidHasOneReport = (f : Cnf) (run_params : RunParamsValue) (s : ℕ) (bytes : List ℕ)
    (lines : List StreamLine) (report : Report)
    → IsCnf f → Fits run_params.layout f → IsStream run_params.layout s
    → IsValidProof f run_params.layout s bytes lines
    → IsReportAlone f run_params s bytes stream_ends.Ended report
    → report ≡ valid_report run_params s lines

-- A valid proof has its valid report in every run in which its reader has the proof's bytes, unless
-- memory ran out or a read failed. The other streams, and how the threads ran, make no difference.
abbrev pub ValidReported : Type 0
ValidReported =
    (f : Cnf) (run_params : RunParamsValue) (s : ℕ) (bytes : List ℕ) (lines : List StreamLine)
    (observed : List InputObservation) (observation : InputObservation) (reports : List Report)
    (report : Report)
    → IsCnf f → Fits run_params.layout f → IsStream run_params.layout s
    → IsValidProof f run_params.layout s bytes lines
    → IsRun f run_params observed reports → IsOfStream observed s observation
    → observation.entry ≡ Some bytes
    → IsOfStream reports s report → ¬ IsExcused CutOff report
    → report ≡ valid_report run_params s lines

-- If a reader's bytes begin with a valid proof, the report says at least what the report of the
-- proof's lines says, no matter what follows, unless memory ran out or a read failed in these
-- lines.
abbrev pub ValidBegins : Type 0
ValidBegins =
    (f : Cnf) (run_params : RunParamsValue) (s : ℕ) (bytes more : List ℕ) (lines : List StreamLine)
    (observed : List InputObservation) (observation : InputObservation) (reports : List Report)
    (report : Report)
    → IsCnf f → Fits run_params.layout f → IsStream run_params.layout s
    → IsValidProof f run_params.layout s bytes lines
    → IsRun f run_params observed reports → IsOfStream observed s observation
    → observation.entry ≡ Some (bytes ++ more)
    → IsOfStream reports s report
    → SaysAtLeast report (valid_report run_params s lines)
    ⊎ ((line : ℕ) × (line ≤ length lines) × IsExcusedAt CutOff report line)

-- In the report of a valid proof, the count of deletions is the number of all identities that its
-- lines delete: 64 bits suffice for it.
abbrev pub ValidCounted : Type 0
ValidCounted =
    (f : Cnf) (run_params : RunParamsValue) (s : ℕ) (bytes : List ℕ) (lines : List StreamLine)
    → IsCnf f → IsLayout run_params.layout → Fits run_params.layout f → IsStream run_params.layout s
    → IsValidProof f run_params.layout s bytes lines
    → (valid_report run_params s lines).deleted ≡ sum_by (λ line. length (deleted_by line)) lines

-- the report says 'empty' exactly if some line adds the empty clause
abbrev pub ValidEmpty : Type 0
ValidEmpty = (run_params : RunParamsValue) (s : ℕ) (lines : List StreamLine)
    → IsTrue (valid_report run_params s lines).empty ↔ Any AddsEmpty lines
