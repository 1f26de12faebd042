use Rattle.std.proofs.Common.{◌≡◌, ◌≤◌, vec_capacity, vec_len}
use Rattle.command.proofs.running.gates.Given as goal

abbrev pub invariant-loop-gate : goal.invariant-loop-gate
invariant-loop-gate g l = record {
  count : vec_len l.gates ≡ l._gate;
  room : l.fn.count ≤ vec_capacity l.gates;
}
