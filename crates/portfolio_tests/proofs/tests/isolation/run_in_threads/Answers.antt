use Rattle.std.proofs.Common.{◌-◌, Some}
use Rattle.test_support.specs.declared.devices.Pieces.{Pieces}
use Rattle.lrup_text.specs.ReadOut.{source_view}
use Rattle.lrup_text.specs.Reads.{GivesLeft}
use Rattle.portfolio_tests.proofs.AloneLemmas.{full_from, two_isolated, two_ordered, has_order, report_alone}
use Rattle.portfolio_tests.proofs.tests.isolation.run_in_threads.Goals as goal

pub returns : goal.returns
returns g c =
    let ran = c.in_ok-outcome.ensures in
    let view = source_view (λ (r : Pieces). Some r.left.now) (λ r. r.failed)
    (λ before room given after. GivesLeft (Some before.left.now) room given (Some after.left.now)) in
    record {
      only = λ cites report says fine.
          report_alone c.readers_closed.ensures c.match_is_reading.ensures view c.in_ok-readers.readers.items
          c.in_ok-outcome.outcome.readers.items c.args.first.now _ report
          (two_isolated view _ _ _ _ _ _ _ c.defaults.ensures c.empty-none.ensures c.in_ok-formula.ensures c.in_ok-readers.ensures.two
          (ran.reports.0.run, ran.reports.1.1, ran.reports.0.read)) cites c.in_ok-readers.ensures.first fine says;
      order = has_order _ _ _ _ (two_ordered _ _ _ _ _ _ _ c.defaults.ensures c.empty-none.ensures c.in_ok-formula.ensures
          c.in_ok-readers.ensures.two (ran.reports.0.run, ran.reports.1.0, ran.reports.1.2)) ran.verdict;
      full = λ s report dropped says at memory.
          full_from _ _ 1 _ _ _ ran.reports.0.have_dropped (s - 1) report dropped says.1 at.1 memory;
    }
