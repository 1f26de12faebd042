use Rattle.portfolio_tests.proofs.tests.isolation.said_in_two_runs.Goals as goal

pub returns : goal.returns
returns g c few more = (c.in_ok-second.ensures more).only c.in_ok-first.first (c.in_ok-first.ensures few).alone
