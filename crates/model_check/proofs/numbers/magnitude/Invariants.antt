use Rattle.std.proofs.Common.{◌≡◌, true, take}
use Rattle.dimacs.specs.Numerals.{all_digits, value_after}
use Rattle.model_check.specs.internal.Numbers.{IsCapped}
use Rattle.model_check.proofs.numbers.magnitude.Given as goal

abbrev pub invariant-loop-byte : goal.invariant-loop-byte
invariant-loop-byte l = record {
  digits : all_digits (take l.byte-index l.rest) ≡ true;
  number : IsCapped l.value (value_after l.initial.value (take l.byte-index l.rest));
}
