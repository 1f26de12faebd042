use Rattle.std.proofs.Common.{◌≡◌, take, length, map}
use Rattle.stream_threads.specs.Items.{byte_of}
use Rattle.stream_threads.proofs.blocks.narrow.Given as goal

abbrev pub invariant-loop-i : goal.invariant-loop-i
invariant-loop-i l = record {
  same : take l.i l.bytes ≡ map byte_of (take l.i l.items);
  len : length l.bytes ≡ length l.items;
}
