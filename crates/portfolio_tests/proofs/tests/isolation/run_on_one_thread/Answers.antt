use Rattle.std.proofs.Common.{Some}
use Rattle.test_support.specs.declared.devices.Pieces.{Pieces}
use Rattle.lrup_text.specs.ReadOut.{source_view}
use Rattle.lrup_text.specs.Reads.{GivesLeft}
use Rattle.portfolio_tests.proofs.AloneLemmas.{two_isolated, report_alone}
use Rattle.portfolio_tests.proofs.tests.isolation.run_on_one_thread.Goals as goal

pub returns : goal.returns
returns g c =
    let ran = c.in_ok-outcome.ensures in
    let view = source_view (λ (r : Pieces). Some r.left.now) (λ r. r.failed)
    (λ before room given after. GivesLeft (Some before.left.now) room given (Some after.left.now)) in
    λ cites report says fine.
    report_alone c.readers_closed.ensures c.match_is_reading.ensures view c.in_ok-readers.readers.items
    c.in_ok-outcome.outcome.readers.items c.args.first.now _ report
    (two_isolated view _ _ _ _ _ _ _ c.defaults.ensures c.empty-none.ensures c.in_ok-formula.ensures c.in_ok-readers.ensures.two
    (ran.ordered.0.run, ran.ordered.1.1, ran.ordered.0.read)) cites c.in_ok-readers.ensures.first fine says
