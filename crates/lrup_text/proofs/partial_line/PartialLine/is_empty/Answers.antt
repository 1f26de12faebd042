use Rattle.std.proofs.Common.{rules}
use Rattle.lrup_text.proofs.Readers.{is_empty, is_started}
use Rattle.lrup_text.proofs.partial_line.PartialLine.is_empty.Goals as goal

pub returns-in-Start : goal.returns-in-Start
returns-in-Start c = (λ _. is_empty c.args.self.now c.in-Start.is, λ _. search rules)

pub returns-in_default : goal.returns-in_default
returns-in_default c = (λ t. absurd (search (rules, t)), λ e. absurd (is_started c.args.self.now c.requires c.in_default.not-Start e))
