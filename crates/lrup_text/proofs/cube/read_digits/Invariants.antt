use Rattle.std.proofs.Common.{length}
use Rattle.lrup_text.proofs.CubeReads.{DigitsSoFar}
use Rattle.lrup_text.proofs.cube.read_digits.Given as goal

abbrev pub invariant-loop-byte : goal.invariant-loop-byte
invariant-loop-byte l = DigitsSoFar l.first l.after l.number l.digits l.rest

abbrev pub decreases-loop-byte : goal.decreases-loop-byte
decreases-loop-byte l = length l.rest
