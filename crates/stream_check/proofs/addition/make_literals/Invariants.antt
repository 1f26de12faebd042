use Rattle.std.proofs.Common.{◌≡◌, ◌≤◌, take, vec_len}
use Rattle.std.specs.Vec.{vec_capacity}
use Rattle.std.specs.List.{AllByRecursion}
use Rattle.lrup_model.specs.Literal.{IsLiteral}
use Rattle.stream_check.proofs.addition.make_literals.Given as goal

abbrev pub invariant-loop-number : goal.invariant-loop-number
invariant-loop-number l = record {
  items : l.literals.items ≡ take l.number-index l.numbers;
  within : AllByRecursion (IsLiteral l.vars) (take l.number-index l.numbers);
  count : vec_len l.literals ≡ l.number-index;
  capacity : vec_capacity l.fn.literals ≤ vec_capacity l.literals;
}
