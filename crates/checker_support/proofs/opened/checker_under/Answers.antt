use Rattle.checker_support.specs.lemmas.OpenedLemmas.{ready_opened}
use Rattle.checker_support.proofs.opened.checker_under.Goals as goal

-- the checker is ready, since the map was just opened
pub returns-clause-ready : goal.returns-clause-ready
returns-clause-ready c =
    ready_opened c.ready_new.ensures c.layout-layout.result.now c.args.cube.now c.args.stream c.args.tries
    c.in_ok-checker.checker c.args.map.now
    c.requires c.layout-layout.ensures c.in_ok-checker.ensures
