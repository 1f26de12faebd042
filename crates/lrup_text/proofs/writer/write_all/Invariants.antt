use Rattle.std.proofs.Common.{◌≡◌, ◌≤◌, ◌-◌, length, take, false}
use Rattle.std.specs.Io.KnownBytes.{Appends}
use Rattle.lrup_text.proofs.writer.write_all.Given as goal

abbrev pub invariant-loop-at : goal.invariant-loop-at
invariant-loop-at g l =
    let written = g.W.Sink.written in
    record {
      bound : l.at ≤ length l.bytes;
      running : g.W.Sink.has_failed l.sink ≡ false;
      went : Appends (written l.fn.sink) (written l.sink) (take l.at l.bytes);
    }

abbrev pub decreases-loop-at : goal.decreases-loop-at
decreases-loop-at g l = length l.bytes - l.at
