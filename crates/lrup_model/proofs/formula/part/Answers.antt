use Rattle.std.proofs.Common.{arith, ◌≡◌, get_or}
use Rattle.lrup_model.specs.internal.Pieces.{pieces}
use Rattle.lrup_model.proofs.PieceLemmas.{AreEnds-at, pieces-at}
use Rattle.lrup_model.proofs.formula.part.Goals as goal

pub between-requires-clause-ordered : goal.between-requires-clause-ordered
between-requires-clause-ordered c = omega (arith, (AreEnds-at 0 c.args.ends.now _ c.args.i c.requires.ends c.requires.within).0)

pub between-requires-clause-within : goal.between-requires-clause-within
between-requires-clause-within c = (AreEnds-at 0 c.args.ends.now _ c.args.i c.requires.ends c.requires.within).1

pub returns : goal.returns
returns c =
    let there : get_or (pieces c.args.literals.now 0 c.args.ends.now) c.args.i _ ≡ _ =
    pieces-at c.args.literals.now 0 c.args.ends.now c.args.i c.requires.within in
    rw (there, ← c.start.ensures) c.between.ensures
