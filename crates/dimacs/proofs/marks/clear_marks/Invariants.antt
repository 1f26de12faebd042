use Rattle.std.proofs.Common.{drop}
use Rattle.dimacs.proofs.SetLemmas.{LeavesMarks}
use Rattle.dimacs.proofs.marks.clear_marks.Given as goal

abbrev pub invariant-loop-l : goal.invariant-loop-l
invariant-loop-l l = LeavesMarks l.words (drop l.l-index l.literals)
