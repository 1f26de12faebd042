use Rattle.std.proofs.Common.{take}
use Rattle.model_check.specs.Answers.{AreConsistent}
use Rattle.model_check.specs.internal.Marks.{AreMarked}
use Rattle.model_check.proofs.marks.mark_all.Given as goal

abbrev pub invariant-loop-l : goal.invariant-loop-l
invariant-loop-l l = record {
  marks : AreMarked l.marks (take l.l-index l.literals);
  consistent : AreConsistent (take l.l-index l.literals);
}
