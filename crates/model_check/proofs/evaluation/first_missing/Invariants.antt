use Rattle.std.proofs.Common.{ℤ, List, ◌<◌}
use Rattle.lrup_model.specs.Literal.{code_of}
use Rattle.lrup_model.specs.Clause.{Has}
use Rattle.model_check.specs.internal.Marks.{AreMarked}
use Rattle.model_check.proofs.evaluation.first_missing.Given as goal

abbrev pub invariant-loop-code : goal.invariant-loop-code
invariant-loop-code l =
    (literals : List ℤ) → AreMarked l.marks literals → (x : ℤ) → Has l.cube x → code_of x < l.code → Has literals x
