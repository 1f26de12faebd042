use Rattle.solve.proofs.EndLemmas.{proved_by}
use Rattle.solve.proofs.checking.check.Goals as goal

pub returns-in-Ok : goal.returns-in-Ok
returns-in-Ok g c =
    proved_by c.args.formula.now c.args.cube.now c.in-Ok.status c.verdict_by.result c.verdict_by.ensures.unsatisfiable
    c.verdict_by.ensures.under c.in-Ok.ensures.sound c.in-Ok.ensures.sound_under
