use Rattle.std.proofs.Common.{◌≡◌, ◌≤◌, length}
use Rattle.dimacs.specs.internal.Places.{lines_at}
use Rattle.dimacs.proofs.tokens.Tokens.skip.Given as goal

abbrev pub invariant-loop-byte : goal.invariant-loop-byte
invariant-loop-byte l = record {
  same : lines_at l.self.line l.self.rest.now ≡ lines_at l.initial.self.line l.initial.self.rest.now;
  shorter : length l.self.rest.now ≤ length l.initial.self.rest.now;
}

abbrev pub decreases-loop-byte : goal.decreases-loop-byte
decreases-loop-byte l = length l.self.rest.now
