use Rattle.std.proofs.Common.{◌≡◌, ◌<◌, false, length}
use Rattle.std.specs.Io.KnownBytes.{Consumes}
use Rattle.lrup_text.specs.Reads.{Gave}
use Rattle.run_files.proofs.opening.read_all.Given as goal

abbrev pub invariant-loop : goal.invariant-loop
invariant-loop g l =
    record {
      gave : Gave g.row.S.Denot g.S.Source.reads l.fn.source l.bytes.items l.source;
      consumes : Consumes (g.S.Source.left l.fn.source) (g.S.Source.left l.source) l.bytes.items;
      running : g.S.Source.has_failed l.source ≡ false;
      piece : 0 < length l.piece;
    }
