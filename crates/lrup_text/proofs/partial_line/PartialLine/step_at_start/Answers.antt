use Rattle.std.proofs.Common.{arith}
use Rattle.lrup_text.proofs.Bytes.{start_goes_on, start_spelling}
use Rattle.lrup_text.proofs.partial_line.PartialLine.step_at_start.Goals as goal

pub returns-in-49-to-57 : goal.returns-in-49-to-57
returns-in-49-to-57 c =
    rw c.begin_number.ensures (start_goes_on c.args.self.now c.args.byte c.requires.reads c.requires.state (omega arith) (omega arith))

pub returns-in_default : goal.returns-in_default
returns-in_default c = start_spelling c.args.self.now c.args.byte c.requires.reads c.requires.state (λ low high. omega arith)

pub returns-in_default-2 : goal.returns-in_default-2
returns-in_default-2 c = start_spelling c.args.self.now c.args.byte c.requires.reads c.requires.state (λ low high. omega arith)
