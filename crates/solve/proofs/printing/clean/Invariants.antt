use Rattle.std.proofs.Common.{◌++◌, ◌≡◌, drop, map, take}
use Rattle.solve.specs.Printing.{shown}
use Rattle.solve.proofs.printing.clean.Given as goal

abbrev pub invariant-loop-byte : goal.invariant-loop-byte
invariant-loop-byte l =
    l.words ≡ map shown (take l.byte-index l.fn.words) ++ drop l.byte-index l.fn.words
