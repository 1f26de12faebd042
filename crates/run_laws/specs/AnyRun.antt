-- The law about the reports that streams have in any run if they are valid in one history.
use Rattle.std.specs.Prelude.{◌≡◌, ◌⊎◌, ◌++◌, ℕ, Bool, IsTrue, List, length, Some}
use Rattle.lrup_model.specs.Formula.{Cnf}
use Rattle.lrup_model.specs.Layout.{Fits}
use Rattle.lrup_model.specs.Event.{History}
use Rattle.lrup_model.specs.History.{IsLegal}
use Rattle.stream_check.specs.declared.report.Ending.TheVariants as endings
use Rattle.stream_check.specs.declared.report.Report.{Report}
use Rattle.stream_check.specs.Excuses.{CutOff, Lacking, IsExcused}
use Rattle.stream_check.specs.Closed.{IsOfStream, IsClosed}
use Rattle.stream_check.specs.SequentialConsistency.{AreJudgedIn}
use Rattle.stream_check.specs.Streams.{Stream, InputObservation, RunParamsValue, stream_params}
use Rattle.run_laws.specs.Groups.{IsRun}

-- Valid in any run. Suppose that a legal history judges a closed set of streams, and that one of
-- these streams ended. Then this stream has the same report in every run in which its reader has
-- the stream's bytes and the readers of the set's other streams have at least those streams' bytes,
-- unless memory ran out, or a read failed, or a line of the stream cites another stream's clause
-- that wasn't there yet or was no longer there.
abbrev pub ValidInAnyRun : Type 0
ValidInAnyRun = (formula : Cnf) (run_params : RunParamsValue) (set : ℕ → Bool) (history : History)
    (streams : List Stream) (reports : List Report) (observed : List InputObservation)
    (other_reports : List Report) (s : ℕ) (stream : Stream) (observation : InputObservation)
    (report other : Report)
    → Fits run_params.layout formula → length streams ≡ run_params.layout.streams
    → IsLegal formula run_params.layout history
    → AreJudgedIn run_params set history 1 streams reports
    → IsClosed run_params.layout set streams
    → IsTrue (set s) → IsOfStream streams s stream → IsOfStream reports s report
    → report.ending ≡ endings.Ended
    → IsRun formula run_params observed other_reports
    → ((t : ℕ) (its : Stream) (reader : InputObservation) → IsTrue (set t)
    → IsOfStream streams t its → IsOfStream observed t reader
    → (more : List ℕ) × (reader.entry ≡ Some (its.bytes ++ more)))
    → IsOfStream observed s observation → observation.entry ≡ Some stream.bytes
    → IsOfStream other_reports s other → ¬ IsExcused CutOff other
    → (other ≡ report) ⊎ IsExcused (Lacking (stream_params run_params s)) other
