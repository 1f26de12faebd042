use Rattle.std.proofs.Common.{◌≡◌, ◌≤◌, length}
use Rattle.dimacs.specs.Lines.{runs}
use Rattle.model_check.proofs.pieces.first_token.Given as goal

abbrev pub invariant-loop-byte : goal.invariant-loop-byte
invariant-loop-byte l = record {
  same : runs l.rest ≡ runs l.line;
  shorter : length l.rest ≤ length l.line;
}

abbrev pub decreases-loop-byte : goal.decreases-loop-byte
decreases-loop-byte l = length l.rest
