use Rattle.std.proofs.Common.{◌≡◌, length}
use Rattle.dimacs.specs.Lines.{runs}
use Rattle.model_check.specs.Reading.{take_tokens}
use Rattle.model_check.proofs.text.Reader.values.Given as goal

abbrev pub invariant-loop-token : goal.invariant-loop-token
invariant-loop-token l = take_tokens l.vars l.line (runs l.rest) l.self ≡ take_tokens l.vars l.line (runs l.values) l.fn.self

abbrev pub decreases-loop-token : goal.decreases-loop-token
decreases-loop-token l = length l.rest
