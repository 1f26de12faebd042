use Rattle.std.proofs.Common.{arith, subst, sym, refl}
use Rattle.lrup_text.proofs.Bytes.{GoesOn, number_room, number_digit_goes_on, number_space_goes_on, number_too_long, number_spelling}
use Rattle.lrup_text.proofs.partial_line.PartialLine.step_in_number.Goals as goal

pub index_mut-requires : goal.index_mut-requires
index_mut-requires c = number_room c.args.self.now c.args.byte c.requires.reads c.requires.state

pub returns-in-32 : goal.returns-in-32
returns-in-32 c = number_space_goes_on c.args.self.now c.args.byte c.requires.reads _ refl c.requires.state (omega arith)

pub returns-in-48-to-57 : goal.returns-in-48-to-57
returns-in-48-to-57 c =
    subst (λ s. GoesOn c.args.self.now c.args.byte s) (sym c.extend_number.ensures)
    (number_digit_goes_on c.args.self.now c.args.byte c.requires.reads c.requires.state (omega arith, omega arith) (omega arith))

pub returns-in-48-to-57-2 : goal.returns-in-48-to-57-2
returns-in-48-to-57-2 c =
    number_too_long c.args.self.now c.args.byte c.requires.reads c.requires.state (omega arith, omega arith) (omega arith)

pub returns-in_default : goal.returns-in_default
returns-in_default c =
    number_spelling c.args.self.now c.args.byte c.requires.reads c.requires.state (λ low high. omega arith) (λ e. omega (arith, e))

pub returns-in_default-2 : goal.returns-in_default-2
returns-in_default-2 c =
    number_spelling c.args.self.now c.args.byte c.requires.reads c.requires.state (λ low high. omega arith) (λ e. omega (arith, e))
