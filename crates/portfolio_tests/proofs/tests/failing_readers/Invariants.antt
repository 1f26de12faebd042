use Rattle.std.proofs.Common.{◌≡◌, false}
use Rattle.std.specs.List.{AllByRecursion}
use Rattle.portfolio_tests.proofs.tests.failing_readers.Given as goal

abbrev pub invariant-loop-stream : goal.invariant-loop-stream
invariant-loop-stream l = AllByRecursion (λ r. r.failed ≡ false) l.readers.items
