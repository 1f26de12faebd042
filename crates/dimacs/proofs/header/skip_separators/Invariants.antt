use Rattle.std.proofs.Common.{◌≡◌, length}
use Rattle.dimacs.specs.Lines.{runs}
use Rattle.dimacs.proofs.header.skip_separators.Given as goal

abbrev pub invariant-loop-byte : goal.invariant-loop-byte
invariant-loop-byte l = runs l.rest ≡ runs l.line

abbrev pub decreases-loop-byte : goal.decreases-loop-byte
decreases-loop-byte l = length l.rest
