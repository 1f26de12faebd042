use Rattle.std.proofs.Common.{◌≡◌, ◌+◌, ◌≤◌, ◌++◌, ℕ, List, length}
use Rattle.lrup_model.specs.Event.{History}
use Rattle.stream_check.specs.Checker.{IsReadyAt, Extends, checker_state}
use Rattle.stream_check.specs.Judging.{joined}
use Rattle.stream_threads.proofs.checking.take_all.Given as goal

abbrev pub invariant-loop : goal.invariant-loop
invariant-loop g l =
    let p = g.M.ClauseMap.caller_view l.fn.map in
    let q = g.M.ClauseMap.caller_view l.map in
    record {
      within : l.counter + length l.rest ≤ length l.fn.piece;
      ready : IsReadyAt l.checker q;
      params : l.checker.params ≡ l.fn.checker.params;
      took : (front : List ℕ) × (blocks : List History) × (l.fn.piece ≡ front ++ l.rest)
          × g.M.ClauseMap.moves l.fn.map l.map (joined blocks)
          × Extends l.fn.checker.params (checker_state l.fn.checker p.room) front blocks (checker_state l.checker q.room);
    }
