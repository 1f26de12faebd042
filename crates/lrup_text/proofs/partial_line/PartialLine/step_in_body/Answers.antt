use Rattle.std.proofs.Common.{◌≡◌, ◌≢◌, ℕ, Bool, true, false, arith, subst, sym, ◌∙◌}
use Rattle.lrup_text.specs.declared.partial_line.ParserState.TheVariants as states
use Rattle.lrup_text.specs.internal.ByteNames.{letter_d, letter_i}
use Rattle.lrup_text.proofs.Bytes.{GoesOn, body_hints_goes_on, body_end_goes_on, body_deletion_goes_on, body_import_goes_on}
use Rattle.lrup_text.proofs.Bytes.{body_minus_goes_on, body_digit_goes_on, body_too_long, body_spelling}
use Rattle.lrup_text.proofs.partial_line.PartialLine.step_in_body.Goals as goal

pub returns-in-48 : goal.returns-in-48
returns-in-48 c = body_end_goes_on c.args.self.now c.args.byte c.requires.reads c.requires.state (omega arith) c.if-self.true

pub returns-in-48-2 : goal.returns-in-48-2
returns-in-48-2 c = body_hints_goes_on c.args.self.now c.args.byte c.requires.reads c.requires.state (omega arith) c.if-self.false

pub returns-in-100 : goal.returns-in-100
returns-in-100 c =
    body_deletion_goes_on c.args.self.now c.args.byte c.requires.reads c.requires.state (omega arith) c.if-not-self.true (omega arith)

pub returns-in-105 : goal.returns-in-105
returns-in-105 c =
    body_import_goes_on c.args.self.now c.args.byte c.requires.reads c.requires.state (omega arith) c.if-not-self-2.true (omega arith)

pub returns-in-45 : goal.returns-in-45
returns-in-45 c = body_minus_goes_on c.args.self.now c.args.byte c.requires.reads c.requires.state (omega arith) (omega arith)

pub returns-in-49-to-57 : goal.returns-in-49-to-57
returns-in-49-to-57 c =
    subst (λ s. GoesOn c.args.self.now c.args.byte (record s { state = states.Literal })) (sym c.begin_number.ensures)
    (body_digit_goes_on c.args.self.now c.args.byte c.requires.reads c.requires.state (omega arith) (omega arith) (omega arith))

pub returns-in-45-2 : goal.returns-in-45-2
returns-in-45-2 c = body_too_long c.args.self.now c.args.byte c.requires.reads c.requires.state
    (omega (arith, c.requires.reads.kept.few_literals)) (λ ne. absurd (ne c.in-45.is))

pub returns-in-45-2-2 : goal.returns-in-45-2-2
returns-in-45-2-2 c = body_too_long c.args.self.now c.args.byte c.requires.reads c.requires.state
    (omega (arith, c.requires.reads.kept.few_literals)) (λ ne. (omega arith, omega arith))

-- a line that is an import already has its letter, so no other letter follows
marked : (imports : Bool) (b : ℕ) → imports ≡ true → imports ≡ false → (b ≢ letter_d) × (b ≢ letter_i)
marked imports b is adds = let both : true ≡ false = sym is ∙ adds in cc

pub returns-in_default : goal.returns-in_default
returns-in_default c =
    body_spelling c.args.self.now c.args.byte c.requires.reads c.requires.state (λ e. omega (arith, e)) (λ e. omega (arith, e))
    (λ low high. omega arith)
    (λ none adds. marked c.args.self.now.imports c.args.byte c.if-not-self.false adds)

pub returns-in_default-2 : goal.returns-in_default-2
returns-in_default-2 c = body_spelling c.args.self.now c.args.byte c.requires.reads c.requires.state (λ e. omega (arith, e))
    (λ e. omega (arith, e)) (λ low high. omega arith) (λ none. absurd (omega arith))

pub returns-in_default-3 : goal.returns-in_default-3
returns-in_default-3 c =
    body_spelling c.args.self.now c.args.byte c.requires.reads c.requires.state (λ e. omega (arith, e)) (λ e. omega (arith, e))
    (λ low high. omega arith)
    (λ none adds. marked c.args.self.now.imports c.args.byte c.if-not-self-2.false adds)

pub returns-in_default-4 : goal.returns-in_default-4
returns-in_default-4 c = body_spelling c.args.self.now c.args.byte c.requires.reads c.requires.state (λ e. omega (arith, e))
    (λ e. omega (arith, e)) (λ low high. omega arith) (λ none. absurd (omega arith))

pub returns-in_default-5 : goal.returns-in_default-5
returns-in_default-5 c =
    body_spelling c.args.self.now c.args.byte c.requires.reads c.requires.state (λ e. omega (arith, e)) (λ e. omega (arith, e))
    (λ low high. omega arith) (λ none adds. (λ e. omega (arith, e), λ e. omega (arith, e)))

pub returns-in_default-6 : goal.returns-in_default-6
returns-in_default-6 c =
    body_spelling c.args.self.now c.args.byte c.requires.reads c.requires.state (λ e. omega (arith, e)) (λ e. omega (arith, e))
    (λ low high. omega arith) (λ none adds. (λ e. omega (arith, e), λ e. omega (arith, e)))
