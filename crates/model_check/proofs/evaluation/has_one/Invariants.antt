use Rattle.std.proofs.Common.{take}
use Rattle.std.specs.List.{AllByRecursion}
use Rattle.model_check.specs.internal.Marks.{HasMark}
use Rattle.model_check.proofs.evaluation.has_one.Given as goal

abbrev pub invariant-loop-l : goal.invariant-loop-l
invariant-loop-l l = AllByRecursion (λ x. ¬ HasMark l.marks x) (take l.l-index l.clause)
