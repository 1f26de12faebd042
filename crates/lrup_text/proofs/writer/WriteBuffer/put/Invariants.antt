use Rattle.std.proofs.Common.{◌≡◌, take, false}
use Rattle.lrup_text.specs.Writing.{Puts}
use Rattle.lrup_text.proofs.writer.WriteBuffer.put.Given as goal

abbrev pub invariant-loop-byte : goal.invariant-loop-byte
invariant-loop-byte g l =
    let written = g.W.Sink.written in
    record {
      running : g.W.Sink.has_failed l.sink ≡ false;
      puts : Puts (written l.fn.sink) (written l.sink) l.fn.self l.self (take l.byte-index l.bytes);
    }
