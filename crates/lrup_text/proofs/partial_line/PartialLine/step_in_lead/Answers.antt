use Rattle.std.proofs.Common.{arith, subst, sym}
use Rattle.lrup_text.proofs.Bytes.{GoesOn, lead_digit_goes_on, lead_space_goes_on, lead_too_long, lead_spelling}
use Rattle.lrup_text.proofs.partial_line.PartialLine.step_in_lead.Goals as goal

pub returns-in-48-to-57 : goal.returns-in-48-to-57
returns-in-48-to-57 c =
    subst (λ s. GoesOn c.args.self.now c.args.byte s) (sym c.extend_number.ensures)
    (lead_digit_goes_on c.args.self.now c.args.byte c.requires.reads c.requires.state (omega arith, omega arith) (omega arith))

pub returns-in-48-to-57-2 : goal.returns-in-48-to-57-2
returns-in-48-to-57-2 c =
    lead_too_long c.args.self.now c.args.byte c.requires.reads c.requires.state (omega arith, omega arith) (omega arith)

pub returns-in-32 : goal.returns-in-32
returns-in-32 c = lead_space_goes_on c.args.self.now c.args.byte c.requires.reads c.requires.state (omega arith)

pub returns-in_default : goal.returns-in_default
returns-in_default c =
    lead_spelling c.args.self.now c.args.byte c.requires.reads c.requires.state (λ low high. omega arith) (λ e. omega (arith, e))

pub returns-in_default-2 : goal.returns-in_default-2
returns-in_default-2 c =
    lead_spelling c.args.self.now c.args.byte c.requires.reads c.requires.state (λ low high. omega arith) (λ e. omega (arith, e))
