use Rattle.std.proofs.Common.{◌-◌, length}
use Rattle.lrup_text.specs.internal.Reading.{ReadsAhead}
use Rattle.lrup_text.proofs.partial_line.PartialLine.read_bytes.Given as goal

abbrev pub invariant-loop-used : goal.invariant-loop-used
invariant-loop-used l = ReadsAhead l.fn.self l.piece l.used l.self

abbrev pub decreases-loop-used : goal.decreases-loop-used
decreases-loop-used l = length l.piece - l.used
