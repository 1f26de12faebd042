-- The two jobs of a stream, and their result (this project's own).
use Rattle.std.specs.Prelude.{◌≡◌, ◌++◌, ℕ, List, [], IsSome, map}
use Rattle.std.specs.List.{AllZip}
use Rattle.lrup_model.specs.Event.{History}
use Rattle.lrup_model.specs.Pass.{PassMoves, pass_caller_view}
use Rattle.clause_store.specs.Passes.{StoreValue, PassValue, store_of}
use Rattle.stream_check.specs.declared.report.Report.{Report}
use Rattle.stream_check.specs.Checker.{IsNew, IsReadyAt, checker_state}
use Rattle.stream_check.specs.CheckerValue.{CheckerValue}
use Rattle.stream_check.specs.DroppedIdsValue.{DroppedIdsValue}
use Rattle.stream_check.specs.Judging.{joined}
use Rattle.stream_check.specs.Reaching.{ReachesState}
use Rattle.lrup_text.specs.ReadOut.{SourceView}
use Rattle.stream_check.specs.Each.{EachOfThree}
use Rattle.stream_check.specs.Readings.{IsStreamOf}
use Rattle.stream_check.specs.Streams.{Stream, JudgesStream, RunParamsValue}
use Rattle.stream_threads.specs.Judged.{DropsBy}
use Rattle.stream_threads.specs.Items.{EndsBeforeMark, SendsAll}

-- what a stream's threads start with: its reader, its checker, and its pass
pub record StreamJobsValue (S : Type 0) : Type 0 where
  pub reader : S
  pub checker : CheckerValue
  pub pass : PassValue

-- the jobs of the stream with this number (from 1), before its first byte: its reader, a checker of
-- that stream, and its pass
pub record IsJob {S : Type 0} (run_params : RunParamsValue) (s : ℕ) (reader : S) (at : PassValue)
    (jobs : StreamJobsValue S) : Type 0 where
  pub reader_is : jobs.reader ≡ reader
  pub checker : IsNew run_params.layout run_params.cube s run_params.tries jobs.checker
  pub pass : jobs.pass ≡ at

-- the jobs of these streams, the first of which is stream s
abbrev pub AreJobs : {S : Type 0} → RunParamsValue → ℕ → List S → List PassValue
    → List (StreamJobsValue S)
    → Type 0
AreJobs run_params s readers passes all = EachOfThree (IsJob run_params) s readers passes all

-- what a stream's threads return: the report, the reader, the pass, and the identities that the
-- stream dropped
pub record StreamResultValue (S : Type 0) : Type 0 where
  pub report : Report
  pub reader : S
  pub pass : PassValue
  pub dropped : DroppedIdsValue

-- the results of streams, one list for each part, and for how many more streams there is room
pub record StreamResultsValue (S : Type 0) : Type 0 where
  pub reports : List Report
  pub readers : List S
  pub passes : List PassValue
  pub dropped : List DroppedIdsValue
  pub room : ℕ

-- the pass belongs to this store, and with it the checker may take its first byte
pub record CanBegin {S : Type 0} (store : StoreValue) (jobs : StreamJobsValue S) : Type 0 where
  pub here : store_of jobs.pass ≡ store
  pub ready : IsReadyAt jobs.checker (pass_caller_view jobs.pass.view)

-- The result is right. If the checker had taken no bytes before, the stream that the reader's reads
-- gave is judged, by the calls that the pass made, as the report says; and the identities are those
-- that the stream's lines dropped.
pub record Finishes {S : Type 0} (view : SourceView S) (jobs : StreamJobsValue S)
    (found : StreamResultValue S) : Type 0 where
  pub store : store_of found.pass ≡ store_of jobs.pass
  pub blocks : List History
  pub moves : PassMoves jobs.pass.view found.pass.view (joined blocks)
  pub judged : ReachesState jobs.checker.params [] []
      (checker_state jobs.checker (pass_caller_view jobs.pass.view).room)
      → (stream : Stream) × IsSome stream.end × IsStreamOf view jobs.reader found.reader stream
      × JudgesStream jobs.checker.params stream blocks found.report
      × DropsBy jobs.checker (pass_caller_view jobs.pass.view).room stream.bytes blocks
      found.dropped found.report

-- the result of each stream, in order
abbrev pub AllFinish : {S : Type 0} → SourceView S → List (StreamJobsValue S)
    → List (StreamResultValue S)
    → Type 0
AllFinish view all found = AllZip (Finishes view) all found

-- the result of each stream, in order, with one list for each part
pub record AreResults {S : Type 0} (view : SourceView S) (all : List (StreamJobsValue S))
    (results : StreamResultsValue S) : Type 0 where
  pub found : List (StreamResultValue S)
  pub finish : AllFinish view all found
  pub reports : results.reports ≡ map (λ one. one.report) found
  pub readers : results.readers ≡ map (λ one. one.reader) found
  pub passes : results.passes ≡ map (λ one. one.pass) found
  pub dropped : results.dropped ≡ map (λ one. one.dropped) found

-- The reader was read to its end or to a read that failed; all that it delivered was sent, and then
-- the mark; but what was received is a prefix of what was sent, without the mark.
pub record MissesMark {S : Type 0} (view : SourceView S) (reader : S) : Type 0 where
  pub last : S
  pub stream : Stream
  pub ended : IsSome stream.end
  pub read : IsStreamOf view reader last stream
  pub items : List ℕ
  pub sent : SendsAll S view reader last items
  pub came : List ℕ
  pub left : List ℕ
  pub items_are : items ≡ came ++ left
  pub no_mark : EndsBeforeMark came
