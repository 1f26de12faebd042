use Rattle.checker_support.specs.lemmas.OpenedLemmas.{ready_opened}
use Rattle.std.specs.Prelude.{[]}
use Rattle.stream_threads_tests.proofs.tests.jobs.open_again.Goals as goal

-- the map was just opened
pub invariant_of-result-clause-ready : goal.invariant_of-result-clause-ready
invariant_of-result-clause-ready c =
    ready_opened c.ready_new.ensures c.layout.result.now [] 1 3 c.in_ok-reading.job.checker c.in_ok-map.map
    c.in_ok-map.ensures.opened c.layout.ensures c.in_ok-reading.ensures.checker
