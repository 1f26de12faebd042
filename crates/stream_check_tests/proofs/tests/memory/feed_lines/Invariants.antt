use Rattle.stream_check.specs.Checker.{IsReadyAt}
use Rattle.stream_check_tests.proofs.tests.memory.feed_lines.Given as goal

abbrev pub invariant-loop-line : goal.invariant-loop-line
invariant-loop-line g l = IsReadyAt l.checker (g.M.ClauseMap.caller_view l.map)
