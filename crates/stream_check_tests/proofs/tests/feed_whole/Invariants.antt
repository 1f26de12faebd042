use Rattle.std.proofs.Common.{◌≡◌, length}
use Rattle.lrup_model.specs.Event.{History}
use Rattle.stream_check.specs.Checker.{IsReadyAt}
use Rattle.stream_check_tests.proofs.tests.feed_whole.Given as goal

abbrev pub invariant-rest : goal.invariant-rest
invariant-rest g l = record {
  ready : IsReadyAt l.checker (g.M.ClauseMap.caller_view l.map);
  moves : (es : History) × g.M.ClauseMap.moves l.initial.map l.map es;
  params : l.checker.params ≡ l.initial.checker.params;
}

abbrev pub decreases-rest : goal.decreases-rest
decreases-rest g l = length l.rest
