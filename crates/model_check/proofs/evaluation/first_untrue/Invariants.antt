use Rattle.std.proofs.Common.{ℤ, List, take}
use Rattle.std.specs.List.{AllByRecursion}
use Rattle.model_check.specs.Answers.{HasOneOf}
use Rattle.model_check.specs.internal.Marks.{AreMarked}
use Rattle.model_check.proofs.evaluation.first_untrue.Given as goal

abbrev pub invariant-loop-i : goal.invariant-loop-i
invariant-loop-i l =
    (literals : List ℤ) → AreMarked l.marks literals → AllByRecursion (HasOneOf literals) (take l.i l.formula.clauses)
