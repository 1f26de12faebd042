use Rattle.std.proofs.Common.{subst}
use Rattle.checker_support.specs.lemmas.OpenedLemmas.{ready_opened}
use Rattle.stream_check.specs.Streams.{RunParamsValue}
use Rattle.stream_check.specs.Checker.{IsNew}
use Rattle.stream_threads_tests.proofs.tests.jobs.open_pair.Goals as goal

-- the map was just opened
pub invariant_of-result-clause-ready : goal.invariant_of-result-clause-ready
invariant_of-result-clause-ready g c =
    let checker = c.in_ok-reading.job.checker in
    ready_opened c.ready_new.ensures c.layout.result.now c.empty-cube.result 1 3 checker c.in_ok-map.map
    c.in_ok-map.ensures.opened c.layout.ensures
    (subst (λ (t : RunParamsValue). IsNew t.layout t.cube 1 t.tries checker) c.new-run_params.ensures c.in_ok-reading.ensures.checker)
