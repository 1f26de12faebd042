use Rattle.std.proofs.Common.{ℤ, take}
use Rattle.lrup_model.specs.Clause.{Has}
use Rattle.propagate.specs.internal.Trail.{IsMarked}
use Rattle.propagate.proofs.trail.any_marked.Given as goal

abbrev pub invariant-loop-lit : goal.invariant-loop-lit
invariant-loop-lit l = record {
  none : (x : ℤ) → Has (take l.lit-index l.literals) x → ¬ IsMarked l.marks x;
}
