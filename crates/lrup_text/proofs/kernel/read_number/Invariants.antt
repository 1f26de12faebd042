use Rattle.std.proofs.Common.{◌-◌, length}
use Rattle.lrup_text.proofs.WholeLines.{SoFar}
use Rattle.lrup_text.proofs.kernel.read_number.Given as goal

abbrev pub invariant-loop-end : goal.invariant-loop-end
invariant-loop-end l = SoFar l.text l.start l.number l.end

abbrev pub decreases-loop-end : goal.decreases-loop-end
decreases-loop-end l = length l.text - l.end
