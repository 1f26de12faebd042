use Rattle.std.proofs.Common.{◌≡◌, take, map}
use Rattle.std.specs.List.{All}
use Rattle.lrup_model.specs.internal.Codes.{literal_of}
use Rattle.lrup_model.specs.Literal.{IsCode, max_variable}
use Rattle.lrup_model.proofs.cube.codes_of.Given as goal

abbrev pub invariant-loop-literal : goal.invariant-loop-literal
invariant-loop-literal l = record {
  literals : map literal_of l.codes.items ≡ take l.literal-index l.literals;
  codes : All (IsCode max_variable) l.codes.items;
}
