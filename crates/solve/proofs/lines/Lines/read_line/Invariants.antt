use Rattle.std.proofs.Common.{◌≤◌, vec_len}
use Rattle.solve.proofs.lines.Lines.read_line.Given as goal

abbrev pub invariant-loop : goal.invariant-loop
invariant-loop g l = vec_len l.line ≤ 4095
