use Rattle.std.proofs.Common.{◌≡◌, ◌+◌, ◌≤◌, length}
use Rattle.model_check.specs.Reading.{all_lines, take_lines}
use Rattle.model_check.specs.internal.Rests.{lines_left, most_left}
use Rattle.model_check.proofs.text.read_lines.Given as goal

abbrev pub invariant-loop-next : goal.invariant-loop-next
invariant-loop-next l = record {
  same : take_lines l.vars (l.line + 1) (lines_left l.next) l.reader ≡ all_lines l.vars l.bytes;
  few : l.line + most_left l.next ≤ length l.bytes + 1;
}

abbrev pub decreases-loop-next : goal.decreases-loop-next
decreases-loop-next l = most_left l.next
