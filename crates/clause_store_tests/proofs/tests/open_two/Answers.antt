use Rattle.test_support.specs.Worked.{four}
use Rattle.clause_store_tests.proofs.tests.open_two.Goals as goal

pub returns : goal.returns
returns c = c.in_ok-first.ensures four c.in_ok-store.store (c.in_ok-store.ensures four c.in_ok-formula.ensures)
