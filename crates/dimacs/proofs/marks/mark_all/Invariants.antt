use Rattle.std.proofs.Common.{take}
use Rattle.dimacs.specs.internal.Marks.{MarksAre}
use Rattle.dimacs.proofs.marks.mark_all.Given as goal

abbrev pub invariant-loop-l : goal.invariant-loop-l
invariant-loop-l l = MarksAre l.words (take l.l-index l.literals)
