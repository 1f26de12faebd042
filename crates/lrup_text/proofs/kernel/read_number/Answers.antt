use Rattle.std.proofs.Common.{◌+◌, sym, subst}
use Rattle.lrup_text.proofs.WholeLines.{SoFar, first_so_far, more_so_far, number_read, wrapped}
use Rattle.lrup_text.proofs.kernel.read_number.Goals as goal

pub loop-end-init : goal.loop-end-init
loop-end-init c =
    subst (λ n. SoFar c.args.text.now c.args.start n (c.args.start + 1)) (sym c.from-number.ensures)
    (first_so_far c.args.text.now c.args.start c.requires.ends c.requires.inside c.if-first-lt-ONE.false c.if-first-gt-NINE.false)

pub loop-end-preserved : goal.loop-end-preserved
loop-end-preserved c =
    more_so_far c.args.text.now c.args.start c.loop-end.number c.loop-end.end _ c.requires.ends c.loop-end.invariant c.loop-end-test.true
    c.if-text-end-le-NINE.true
    (wrapped c.args.text.now c.args.start c.loop-end.number c.loop-end.end c.from.result c.loop-end.invariant c.loop-end-test.true
    c.if-text-end-le-NINE.true c.from.ensures)

pub returns : goal.returns
returns c =
    number_read c.args.text.now c.args.start c.loop-end.number c.loop-end.end c.loop-end.invariant c.if-end-start-gt-MAX_DIGITS.false
