use Rattle.std.proofs.Common.{◌≡◌, map}
use Rattle.std.specs.Vec.{vec_capacity}
use Rattle.clause_store.specs.internal.AtRest.{pass_value}
use Rattle.clause_store.proofs.pass.passes_of.Given as goal

abbrev pub invariant-loop-seat : goal.invariant-loop-seat
invariant-loop-seat l = record {
  passes : l.passes.items ≡ map pass_value l.yielded;
  room : vec_capacity l.passes ≡ vec_capacity l.initial.passes;
}
