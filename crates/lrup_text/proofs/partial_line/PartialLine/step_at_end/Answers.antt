use Rattle.std.proofs.Common.{arith}
use Rattle.lrup_text.proofs.Bytes.{end_ends, end_spelling}
use Rattle.lrup_text.proofs.partial_line.PartialLine.step_at_end.Goals as goal

pub returns-in-10 : goal.returns-in-10
returns-in-10 c = end_ends c.args.self.now c.args.byte c.requires.reads c.requires.state (omega arith)

pub returns-in_default : goal.returns-in_default
returns-in_default c = end_spelling c.args.self.now c.args.byte c.requires.reads c.requires.state (λ e. omega (arith, e))
