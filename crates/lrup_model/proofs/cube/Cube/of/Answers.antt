use Rattle.std.proofs.lemmas.List.Sorted.{All-permutation, IsNonDecreasingBy-from_sort}
use Rattle.lrup_model.specs.Literal.{IsCode, max_variable}
use Rattle.lrup_model.proofs.CubeCodes.{reordered}
use Rattle.lrup_model.proofs.cube.Cube.of.Goals as goal

pub invariant_of-result : goal.invariant_of-result
invariant_of-result c = record {
  each = All-permutation (IsCode max_variable) c.in_ok-codes.codes.items c.sort_unstable.new.self.items c.sort_unstable.ensures.permutation
      c.in_ok-codes.ensures.codes;
  sorted = IsNonDecreasingBy-from_sort (λ code. code) c.sort_unstable.new.self.items c.sort_unstable.ensures.sorted;
}

pub returns : goal.returns
returns c = reordered c.in_ok-codes.codes.items c.sort_unstable.new.self.items c.args.literals.now c.sort_unstable.ensures.permutation
    c.in_ok-codes.ensures.literals
