use Rattle.std.proofs.Common.{◌≡◌, ◌<◌, length, false}
use Rattle.std.specs.Prelude.{All}
use Rattle.std.specs.Io.KnownBytes.{Consumes}
use Rattle.rtrb.specs.Ring.{sent, SameProducer}
use Rattle.lrup_text.specs.Reads.{Gave}
use Rattle.stream_threads.proofs.channel.Sender.send_all.Given as goal

abbrev pub invariant-loop : goal.invariant-loop
invariant-loop g l = record {
  next : (goal.iterator-loop g).can_next l.iterator' × (goal.iterator-loop g).is_finite l.iterator';
  ring : SameProducer l.initial.self.producer l.self.producer;
  working : g.R.Source.has_failed l.reader ≡ false;
  room : (0 < length l.piece) × (0 < length l.items);
  small : All (λ b. b < 256) (sent l.self.producer);
  known : Consumes (g.R.Source.left l.initial.reader) (g.R.Source.left l.reader) (sent l.self.producer);
  gave : Gave g.row.R.Denot g.R.Source.reads l.initial.reader (sent l.self.producer) l.reader;
}
