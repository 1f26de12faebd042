use Rattle.std.proofs.Common.{◌≡◌}
use Rattle.clause_store.specs.Passes.{store_of}
use Rattle.clause_store_tests.proofs.tests.interleavings.hammers.Given as goal

abbrev pub invariant-loop-turn : goal.invariant-loop-turn
invariant-loop-turn l = store_of l.pass ≡ l.store
