use Rattle.stream_check.proofs.FeedLemmas.{new_left}
use Rattle.stream_check.proofs.checker.Checker.new.Goals as goal

pub returns : goal.returns
returns c =
    rw (c.new.ensures.fresh, c.new-params.ensures, c.in_ok-try_clone.ensures)
    (new_left c.fresh_left.ensures _ c.new.result.dropped c.in_ok-new-2.field-0 c.new.ensures.dropped c.in_ok-new-2.ensures.0)
