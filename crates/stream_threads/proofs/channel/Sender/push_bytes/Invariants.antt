use Rattle.std.proofs.Common.{◌≡◌, ◌++◌, ◌<◌, length}
use Rattle.rtrb.specs.Ring.{sent, SameProducer}
use Rattle.stream_threads.proofs.channel.Sender.push_bytes.Given as goal

abbrev pub invariant-loop : goal.invariant-loop
invariant-loop g l = record {
  next : (goal.iterator-loop g).can_next l.iterator' × (goal.iterator-loop g).is_finite l.iterator';
  ring : SameProducer l.initial.self.producer l.self.producer;
  room : length l.items ≡ length l.initial.items;
  some : 0 < length l.items;
  sent_is : sent l.self.producer ++ l.rest ≡ sent l.initial.self.producer ++ l.initial.rest;
}
