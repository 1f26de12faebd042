use Rattle.solve.proofs.CommentLemmas.{more_comments, no_comments}
use Rattle.solve.proofs.hearing.listen.Goals as goal

pub loop-init : goal.loop-init
loop-init g c = no_comments g.O.Sink c.args.out.now

pub returns-in-Some-hear : goal.returns-in-Some-hear
returns-in-Some-hear g c =
    more_comments g.O.Sink c.args.out.now c.loop.out c.hear.new.out c.loop.invariant c.hear.ensures

pub loop-preserved : goal.loop-preserved
loop-preserved g c =
    more_comments g.O.Sink c.args.out.now c.loop.out c.hear.new.out c.loop.invariant c.hear.ensures
