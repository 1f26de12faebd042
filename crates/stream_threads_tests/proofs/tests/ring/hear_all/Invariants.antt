use Rattle.std.proofs.Common.{◌≡◌, ◌<◌, length}
use Rattle.stream_threads_tests.proofs.tests.ring.hear_all.Given as goal

abbrev pub invariant-loop : goal.invariant-loop
invariant-loop g l = record {
  next : (goal.iterator-loop g).can_next l.iterator' × (goal.iterator-loop g).is_finite l.iterator';
  some : 0 < length l.items;
  room : length l.items ≡ length l.bytes;
}
