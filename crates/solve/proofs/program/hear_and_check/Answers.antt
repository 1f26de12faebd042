use Rattle.solve.proofs.CommentLemmas.{more_comments}
use Rattle.solve.proofs.EndLemmas.{one_proved}
use Rattle.solve.proofs.program.hear_and_check.Goals as goal

pub loop-preserved : goal.loop-preserved
loop-preserved g c = record {
  proved = one_proved c.args.formula.now c.args.cube.now c.stronger-verdict.result c.loop.verdict _ c.stronger-verdict.ensures
      c.loop.invariant.proved c.hear_while_checking-asked.ensures.proved;
  printed = more_comments g.O.Sink c.args.out.now c.loop.out c.hear_while_checking-asked.new.out c.loop.invariant.printed
      c.hear_while_checking-asked.ensures.printed;
}
