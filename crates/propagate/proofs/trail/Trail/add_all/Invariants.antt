use Rattle.std.proofs.Common.{◌≡◌, take}
use Rattle.lrup_model.specs.lemmas.DistinctLemmas.{IsTaken}
use Rattle.propagate.proofs.trail.Trail.add_all.Given as goal

abbrev pub invariant-loop-lit : goal.invariant-loop-lit
invariant-loop-lit l = record {
  taken : IsTaken (take l.lit-index l.clause) l.self.literals;
  vars : l.self.vars ≡ l.fn.self.vars;
}
