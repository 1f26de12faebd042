use Rattle.std.proofs.Common.{◌≡◌, ◌++◌}
use Rattle.rtrb.specs.Ring.{sent, SameProducer}
use Rattle.stream_threads.proofs.channel.Sender.push_all.Given as goal

abbrev pub invariant-loop : goal.invariant-loop
invariant-loop g l = record {
  next : (goal.iterator-loop g).can_next l.iterator' × (goal.iterator-loop g).is_finite l.iterator';
  ring : SameProducer l.initial.self.producer l.self.producer;
  sent_is : sent l.self.producer ++ l.rest ≡ sent l.initial.self.producer ++ l.initial.rest;
}
