use Rattle.std.proofs.Common.{◌≡◌, ◌<◌, List, length, map}
use Rattle.lrup_model.specs.Event.{History}
use Rattle.rtrb.specs.Ring.{received, SameConsumer}
use Rattle.stream_check.specs.Checker.{IsReadyAt, Extends, checker_state}
use Rattle.stream_check.specs.Judging.{joined}
use Rattle.stream_threads.specs.Items.{EndsBeforeMark, byte_of}
use Rattle.stream_threads.proofs.checking.check_received.Given as goal

abbrev pub invariant-loop : goal.invariant-loop
invariant-loop g l =
    let p = g.M.ClauseMap.caller_view l.fn.map in
    let q = g.M.ClauseMap.caller_view l.map in
    record {
      next : (goal.iterator-loop g).can_next l.iterator' × (goal.iterator-loop g).is_finite l.iterator';
      ring : SameConsumer l.fn.receiver.consumer l.receiver.consumer;
      some : 0 < length l.items;
      room : length l.items ≡ length l.bytes;
      ready : IsReadyAt l.checker q;
      no_mark : EndsBeforeMark (received l.receiver.consumer);
      params : l.checker.params ≡ l.fn.checker.params;
      took : (blocks : List History) × g.M.ClauseMap.moves l.fn.map l.map (joined blocks)
          × Extends l.fn.checker.params (checker_state l.fn.checker p.room) (map byte_of (received l.receiver.consumer)) blocks
          (checker_state l.checker q.room);
    }
