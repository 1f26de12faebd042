use Rattle.clause_store_tests.specs.Worked.{IsPassAt, raced}
use Rattle.clause_store_tests.proofs.tests.interleavings.look_at_line.Given as goal

abbrev pub invariant-loop-stream : goal.invariant-loop-stream
invariant-loop-stream g l = IsPassAt raced l.store l.pass
