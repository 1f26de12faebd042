use Rattle.rtrb.specs.Ring.{received}
use Rattle.stream_threads.proofs.ThreadLemmas.{judged_at}
use Rattle.stream_threads.proofs.tasks.check.Goals as goal

pub returns-clause-judged : goal.returns-clause-judged
returns-clause-judged g c =
    let checked = c.in_ok-checked.checked in
    judged_at c.args.job.checker c.new-desk.result c.check_on_signal.new.map c.args.pass c.into_pass.result
    (received checked.consumer) checked.dropped checked.report
    c.new-desk.ensures c.into_pass.ensures c.in_ok-checked.ensures.judged
