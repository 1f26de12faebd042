use Rattle.std.proofs.Common.{◌≡◌}
use Rattle.clause_store_tests.proofs.tests.reads_back.Given as goal

abbrev pub invariant-loop-k : goal.invariant-loop-k
invariant-loop-k l = l.pass ≡ l.fn.pass
