-- What is known of threads that were started, and of those that have ended (this project's own).
use Rattle.std.specs.Prelude.{◌≡◌, ◌++◌, ◌-◌, ℕ, List, [], ◌∷◌, Option, Some, None}
use Rattle.lrup_text.specs.ReadOut.{SourceView}
use Rattle.stream_threads.specs.Jobs.{StreamResultValue, StreamResultsValue, StreamJobsValue, MissesMark, Finishes}
use Rattle.lrup_model.specs.Event.{History}
use Rattle.lrup_model.specs.Pass.{PassMoves, pass_caller_view}
use Rattle.clause_store.specs.Passes.{PassValue, store_of}
use Rattle.stream_check.specs.declared.report.Report.{Report}
use Rattle.stream_check.specs.CheckerValue.{CheckerValue}
use Rattle.stream_check.specs.DroppedIdsValue.{DroppedIdsValue}
use Rattle.stream_check.specs.Judging.{joined}
use Rattle.stream_threads.specs.Judged.{JudgesAtMark}

-- the results of no streams, with this much room
abbrev pub no_results : {S : Type 0} → ℕ → StreamResultsValue S
no_results room = record { reports = []; readers = []; passes = []; dropped = []; room = room }

-- the results, with those of one more stream
abbrev pub more_results : {S : Type 0} → StreamResultsValue S → StreamResultValue S
    → StreamResultsValue S
more_results found one =
    record {
      reports = found.reports ++ one.report ∷ [];
      readers = found.readers ++ one.reader ∷ [];
      passes = found.passes ++ one.pass ∷ [];
      dropped = found.dropped ++ one.dropped ∷ [];
      room = found.room - 1;
    }

-- what the threads of a stream were started with: the jobs, and the signal for which they wait
pub record StartedValue (S : Type 0) : Type 0 where
  pub jobs : StreamJobsValue S
  pub signal : ℕ

-- threads that were started with these jobs and this signal
abbrev pub started_with : {S : Type 0} → ℕ → StreamJobsValue S → StartedValue S
started_with signal jobs = record { jobs = jobs; signal = signal }

-- The report judges the bytes received up to a mark, by the calls that the pass made between `old`
-- and `new`, and the lines drop these identities.
pub record JudgesAtPass (checker : CheckerValue) (old new : PassValue) (items : List ℕ)
    (dropped : DroppedIdsValue) (report : Report) : Type 0 where
  pub store : store_of new ≡ store_of old
  pub blocks : List History
  pub moves : PassMoves old.view new.view (joined blocks)
  pub judged : JudgesAtMark checker (pass_caller_view old.view).room items blocks dropped report

-- the stream has this result, or its mark wasn't received
abbrev pub IsEndOf : {S : Type 0} → SourceView S → StreamJobsValue S → Option (StreamResultValue S)
    → Type 0
IsEndOf view jobs (Some found) = Finishes view jobs found
IsEndOf view jobs None = MissesMark view jobs.reader
