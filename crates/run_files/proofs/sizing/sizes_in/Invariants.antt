use Rattle.std.proofs.Common.{◌≡◌, ◌≤◌, ◌-◌, false, vec_len}
use Rattle.std.specs.Io.KnownBytes.{Consumes}
use Rattle.lrup_text.specs.Reads.{Gave}
use Rattle.run_files.proofs.sizing.sizes_in.Given as goal

abbrev pub invariant-loop-buffer : goal.invariant-loop-buffer
invariant-loop-buffer g l =
    record {
      gave : Gave g.row.S.Denot g.S.Source.reads l.fn.source l.bytes.items l.source;
      consumes : Consumes (g.S.Source.left l.fn.source) (g.S.Source.left l.source) l.bytes.items;
      running : g.S.Source.has_failed l.source ≡ false;
      count : vec_len l.bytes ≤ 64;
    }

abbrev pub decreases-loop-buffer : goal.decreases-loop-buffer
decreases-loop-buffer g l = 64 - vec_len l.bytes
