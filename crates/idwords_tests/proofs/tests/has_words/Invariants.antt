use Rattle.std.proofs.Common.{◌≡◌}
use Rattle.idwords_tests.proofs.tests.has_words.Given as goal

abbrev pub invariant-loop-place : goal.invariant-loop-place
invariant-loop-place l = l.seat ≡ l.fn.seat
