use Rattle.std.proofs.Common.{unsigned_abs, arith, subst, sym, refl, ap, ◌∙◌}
use Rattle.std.proofs.Common.{w64}
use Rattle.std.specs.Fmt.{signed_decimal}
use Rattle.std.proofs.lemmas.Int.{to_z-of_z, ints}
use Rattle.lrup_text.proofs.Bytes.{GoesOn, literal_room, literal_digit_goes_on, literal_space_goes_on, literal_too_long, literal_spelling}
use Rattle.lrup_text.proofs.Bytes.{below_limit}
use Rattle.lrup_text.proofs.partial_line.PartialLine.step_in_literal.Goals as goal

pub literal_of-requires-clause-high : goal.literal_of-requires-clause-high
literal_of-requires-clause-high c = below_limit c.args.self.now.number c.args.self.now.digits c.requires.reads.number

pub index_mut-requires : goal.index_mut-requires
index_mut-requires c = literal_room c.args.self.now c.args.byte c.requires.reads c.requires.state

pub returns-in-32 : goal.returns-in-32
returns-in-32 c =
    let same = to_z-of_z w64 c.literal_of.result (search (arith, ints, c.literal_of.type_inv)) in
    literal_space_goes_on c.args.self.now c.args.byte c.requires.reads _ _ refl (ap signed_decimal same ∙ c.literal_of.ensures.text)
    (ap unsigned_abs same ∙ c.literal_of.ensures.magnitude) c.requires.state (omega arith)

pub returns-in-48-to-57 : goal.returns-in-48-to-57
returns-in-48-to-57 c =
    subst (λ s. GoesOn c.args.self.now c.args.byte s) (sym c.extend_number.ensures)
    (literal_digit_goes_on c.args.self.now c.args.byte c.requires.reads c.requires.state (omega arith, omega arith) (omega arith))

pub returns-in-48-to-57-2 : goal.returns-in-48-to-57-2
returns-in-48-to-57-2 c =
    literal_too_long c.args.self.now c.args.byte c.requires.reads c.requires.state (omega arith, omega arith) (omega arith)

pub returns-in_default : goal.returns-in_default
returns-in_default c =
    literal_spelling c.args.self.now c.args.byte c.requires.reads c.requires.state (λ low high. omega arith) (λ e. omega (arith, e))

pub returns-in_default-2 : goal.returns-in_default-2
returns-in_default-2 c =
    literal_spelling c.args.self.now c.args.byte c.requires.reads c.requires.state (λ low high. omega arith) (λ e. omega (arith, e))
