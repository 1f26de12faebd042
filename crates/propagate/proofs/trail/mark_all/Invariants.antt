use Rattle.std.proofs.Common.{◌↔◌, ◌⊎◌, ◌≡◌, ℤ, length, take}
use Rattle.lrup_model.specs.Clause.{Has}
use Rattle.propagate.specs.internal.Trail.{IsMarked}
use Rattle.propagate.proofs.trail.mark_all.Given as goal

abbrev pub invariant-loop-lit : goal.invariant-loop-lit
invariant-loop-lit l = record {
  marked : (x : ℤ) → IsMarked l.marks x ↔ (IsMarked l.fn.marks x ⊎ Has (take l.lit-index l.literals) x);
  count : length l.marks ≡ length l.fn.marks;
}
