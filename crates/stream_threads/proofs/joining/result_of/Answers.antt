use Rattle.std.proofs.Common.{◌∙◌, sym, subst}
use Rattle.lrup_model.specs.Pass.{pass_caller_view}
use Rattle.stream_check.specs.Readings.{IsStreamOf, readers_view}
use Rattle.stream_check.specs.DroppedIdsValue.{DroppedIdsValue}
use Rattle.stream_threads.specs.Judged.{DropsBy}
use Rattle.stream_threads.specs.internal.Workers.{IsEndOf}
use Rattle.stream_threads.specs.Jobs.{MissesMark}
use Rattle.stream_threads.proofs.joining.result_of.Goals as goal

pub returns-clause-end : goal.returns-clause-end
returns-clause-end g c jobs sent judged no_mark =
    let e = rw (sym c.jobs_agree.ensures.report ∙ c.in_ok-report.was) at judged in
    record {
      store = e.store;
      blocks = e.blocks;
      moves = e.moves;
      judged = λ fresh.
          let met = c.jobs_agree.ensures.judged jobs.reader jobs.checker _ e.blocks _ _ sent e.judged fresh in
          let same = sym c.jobs_agree.ensures.reader in
          let dropped = sym c.jobs_agree.ensures.dropped in (
            met.0,
            met.1,
            subst (λ r. IsStreamOf (readers_view g.R.Source) jobs.reader r met.0) same met.2,
            met.3,
            subst (λ (d : DroppedIdsValue). DropsBy jobs.checker (pass_caller_view jobs.pass.view).room met.0.bytes e.blocks d
                c.in_ok-report.report)
                dropped met.4,
          );
    }

-- what was received is a prefix of what was sent, and doesn't end with a mark
pub returns-in_err-report-clause-end : goal.returns-in_err-report-clause-end
returns-in_err-report-clause-end g c jobs sent judged no_mark =
    let view = readers_view g.R.Source in
    let read = c.jobs_agree.ensures.read jobs.reader sent in
    let begun = c.jobs_agree.ensures.beginning in
    let missed : MissesMark view jobs.reader = record {
      last = _;
      stream = read.0;
      ended = read.1;
      read = read.2;
      items = _;
      sent = sent;
      came = _;
      left = begun.0;
      items_are = begun.1;
      no_mark = rw (sym c.jobs_agree.ensures.report ∙ c.in_err-report.was) at no_mark;
    } in
    subst (IsEndOf view jobs) (sym c.from_residual.ensures) missed
