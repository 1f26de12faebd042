use Rattle.std.proofs.Common.{◌≡◌, take, length}
use Rattle.stream_threads.proofs.blocks.widen.Given as goal

abbrev pub invariant-loop-i : goal.invariant-loop-i
invariant-loop-i l = record {
  same : take l.i l.items ≡ take l.i l.bytes;
  len : length l.items ≡ length l.bytes;
}
