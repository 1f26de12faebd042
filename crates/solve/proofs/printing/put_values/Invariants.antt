use Rattle.std.proofs.Common.{◌++◌, ◌≡◌, ◌∷◌, List, [], drop, false, ℕ}
use Rattle.std.specs.Prelude.{pos}
use Rattle.lrup_text.specs.Writing.{Puts}
use Rattle.solve.specs.Printing.{values_text}
use Rattle.solve.proofs.printing.put_values.Given as goal

abbrev pub invariant-loop-literal : goal.invariant-loop-literal
invariant-loop-literal g l =
    let written = g.O.Sink.written in
    record {
      running : g.O.Sink.has_failed l.out ≡ false;
      puts : (before : List ℕ) × Puts (written l.fn.out) (written l.out) l.fn.buffer l.buffer before
          × (values_text (l.literals ++ pos 0 ∷ []) 10
          ≡ before ++ values_text (drop l.literal-index l.literals ++ pos 0 ∷ []) l.room);
    }
