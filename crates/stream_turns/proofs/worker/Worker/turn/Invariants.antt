use Rattle.std.proofs.Common.{◌≡◌, [], None}
use Rattle.stream_check.specs.Checker.{IsReadyAt}
use Rattle.stream_check.specs.Readings.{readers_view}
use Rattle.stream_turns.specs.internal.Working.{WorkerStep}
use Rattle.stream_turns.proofs.worker.Worker.turn.Given as goal

abbrev pub invariant-loop : goal.invariant-loop
invariant-loop g l =
    let p = g.M.ClauseMap.caller_view l.fn.map in
    let q = g.M.ClauseMap.caller_view l.map in
    record {
      going : l.self.checker.ending ≡ None;
      ready : IsReadyAt l.self.checker q;
      params : l.self.checker.params ≡ l.fn.self.checker.params;
      holds : g.M.ClauseMap.moves l.fn.map l.map []
          × WorkerStep (readers_view g.R.Source) l.fn.self p.room [] l.self q.room;
    }
