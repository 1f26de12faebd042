use Rattle.std.proofs.Common.{◌≡◌, ◌<◌, length}
use Rattle.dimacs.specs.Numerals.{all_digits, value_after}
use Rattle.dimacs.specs.internal.Places.{first_run, after_run}
use Rattle.dimacs.proofs.tokens.numeral.Given as goal

abbrev pub invariant-loop-byte : goal.invariant-loop-byte
invariant-loop-byte l = record {
  digits : all_digits (first_run l.rest) ≡ all_digits (first_run l.initial.rest);
  number : value_after l.value (first_run l.rest) ≡ value_after l.initial.value (first_run l.initial.rest);
  positive : 0 < l.value;
  left : after_run l.rest ≡ after_run l.initial.rest;
}

abbrev pub decreases-loop-byte : goal.decreases-loop-byte
decreases-loop-byte l = length l.rest
