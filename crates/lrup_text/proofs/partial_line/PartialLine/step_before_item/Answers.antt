use Rattle.std.proofs.Common.{arith, subst, sym}
use Rattle.lrup_text.specs.declared.partial_line.ParserState.TheVariants as states
use Rattle.lrup_text.proofs.Bytes.{GoesOn, item_zero_goes_on, item_digit_goes_on, item_too_long, item_rat, item_spelling}
use Rattle.lrup_text.proofs.partial_line.PartialLine.step_before_item.Goals as goal

pub returns-in-48 : goal.returns-in-48
returns-in-48 c = item_zero_goes_on c.args.self.now c.args.byte c.requires.reads c.requires.state (omega arith)

pub returns-in-49-to-57 : goal.returns-in-49-to-57
returns-in-49-to-57 c =
    item_too_long c.args.self.now c.args.byte c.requires.reads c.requires.state (omega arith) (omega arith) (omega arith)

pub returns-in-49-to-57-2 : goal.returns-in-49-to-57-2
returns-in-49-to-57-2 c =
    subst (λ s. GoesOn c.args.self.now c.args.byte (record s { state = states.Number })) (sym c.begin_number.ensures)
    (item_digit_goes_on c.args.self.now c.args.byte c.requires.reads c.requires.state (omega arith) (omega arith)
    (omega (arith, c.requires.reads.kept.few_identities)))

pub returns-in-45 : goal.returns-in-45
returns-in-45 c = item_rat c.args.self.now c.args.byte c.requires.reads c.requires.state (omega arith) c.if-not-self.true

pub returns-in_default : goal.returns-in_default
returns-in_default c = item_spelling c.args.self.now c.args.byte c.requires.reads c.requires.state (λ e. omega (arith, e))
    (λ low high. omega arith) (λ _. c.if-not-self.false)

pub returns-in_default-2 : goal.returns-in_default-2
returns-in_default-2 c = item_spelling c.args.self.now c.args.byte c.requires.reads c.requires.state (λ e. omega (arith, e))
    (λ low high. omega arith) (λ e. absurd (omega (arith, e)))

pub returns-in_default-3 : goal.returns-in_default-3
returns-in_default-3 c = item_spelling c.args.self.now c.args.byte c.requires.reads c.requires.state (λ e. omega (arith, e))
    (λ low high. omega arith) (λ e. absurd (omega (arith, e)))
