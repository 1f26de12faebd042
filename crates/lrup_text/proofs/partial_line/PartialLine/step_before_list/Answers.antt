use Rattle.std.proofs.Common.{arith}
use Rattle.lrup_text.proofs.Bytes.{list_goes_on, list_spelling}
use Rattle.lrup_text.proofs.partial_line.PartialLine.step_before_list.Goals as goal

pub returns-in-32 : goal.returns-in-32
returns-in-32 c = list_goes_on c.args.self.now c.args.byte c.requires.reads c.requires.state (omega arith)

pub returns-in_default : goal.returns-in_default
returns-in_default c = list_spelling c.args.self.now c.args.byte c.requires.reads c.requires.state (λ e. omega (arith, e))
