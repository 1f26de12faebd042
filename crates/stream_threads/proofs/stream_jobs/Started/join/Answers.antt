use Rattle.std.proofs.Common.{subst}
use Rattle.stream_check.specs.Readings.{readers_view}
use Rattle.stream_threads.specs.internal.Workers.{IsEndOf, StartedValue}
use Rattle.stream_threads.specs.Jobs.{StreamJobsValue}
use Rattle.stream_threads.proofs.ThreadLemmas.{if_stayed}
use Rattle.stream_threads.proofs.stream_jobs.Started.join.Goals as goal

-- each thread's promise is about the jobs with which it was started
pub returns : goal.returns
returns g c =
    let view = readers_view g.R.Source in
    let reading = c.self.inside.reading.promise in
    let checking = c.self.inside.checking.promise in
    let jobs : StreamJobsValue g.row.R.Denot =
    record { reader = reading.job.value.reader; checker = checking.job.value.checker; pass = checking.pass.value } in
    let sent = if_stayed _ _ _ c.join.ensures c.result_after_start-sent.result c.result_after_start-sent.ensures in
    let checked = if_stayed _ _ _ c.join-2.ensures c.result_after_start-checked.result c.result_after_start-checked.ensures in
    subst (λ (one : StartedValue g.row.R.Denot). IsEndOf view one.jobs c.result_of.result) c.self.view_is
    (c.result_of.ensures.end jobs sent.1 checked.1 checked.2)
