use Rattle.std.proofs.Common.{arith}
use Rattle.lrup_text.proofs.Bytes.{import_space_goes_on, import_spelling}
use Rattle.lrup_text.proofs.partial_line.PartialLine.step_after_import.Goals as goal

pub returns-in-32 : goal.returns-in-32
returns-in-32 c = import_space_goes_on c.args.self.now c.args.byte c.requires.reads c.requires.state (omega arith)

pub returns-in_default : goal.returns-in_default
returns-in_default c = import_spelling c.args.self.now c.args.byte c.requires.reads c.requires.state (λ e. omega (arith, e))
