use Rattle.std.proofs.Common.{◌≡◌, length}
use Rattle.dimacs.specs.Numerals.{all_digits}
use Rattle.dimacs.specs.internal.Places.{first_run, after_run}
use Rattle.dimacs.proofs.tokens.skip_digits.Given as goal

abbrev pub invariant-loop-byte : goal.invariant-loop-byte
invariant-loop-byte l = record {
  digits : all_digits (first_run l.rest) ≡ all_digits (first_run l.text);
  left : after_run l.rest ≡ after_run l.text;
}

abbrev pub decreases-loop-byte : goal.decreases-loop-byte
decreases-loop-byte l = length l.rest
