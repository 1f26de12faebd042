use Rattle.std.proofs.Common.{◌≡◌, ◌≤◌, ◌-◌, ◌++◌, length, take, drop}
use Rattle.dimacs.specs.internal.Places.{first_run, after_run}
use Rattle.dimacs.proofs.header.split_run.Given as goal

abbrev pub invariant-loop-end : goal.invariant-loop-end
invariant-loop-end l = record {
  within : l.end ≤ length l.text;
  run_is : first_run l.text ≡ take l.end l.text ++ first_run (drop l.end l.text);
  left : after_run l.text ≡ after_run (drop l.end l.text);
}

abbrev pub decreases-loop-end : goal.decreases-loop-end
decreases-loop-end l = length l.text - l.end
