use Rattle.stream_check.specs.Checker.{IsReadyAt}
use Rattle.stream_check_tests.proofs.tests.feed_cut.Given as goal

abbrev pub invariant-loop-piece : goal.invariant-loop-piece
invariant-loop-piece g l = IsReadyAt l.checker (g.M.ClauseMap.caller_view l.map)
