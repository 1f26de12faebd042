use Rattle.std.proofs.Common.{◌≡◌, length}
use Rattle.rtrb.specs.Ring.{received, SameConsumer}
use Rattle.stream_threads.proofs.channel.Receiver.pop_some.Given as goal

abbrev pub invariant-loop : goal.invariant-loop
invariant-loop g l = record {
  next : (goal.iterator-loop g).can_next l.iterator' × (goal.iterator-loop g).is_finite l.iterator';
  ring : SameConsumer l.initial.self.consumer l.self.consumer;
  room : length l.items ≡ length l.initial.items;
  same : received l.self.consumer ≡ received l.initial.self.consumer;
}
