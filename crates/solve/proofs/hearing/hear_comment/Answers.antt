use Rattle.solve.proofs.CommentLemmas.{no_comments}
use Rattle.solve.proofs.hearing.hear_comment.Goals as goal

pub returns-then-quiet : goal.returns-then-quiet
returns-then-quiet g c = no_comments g.O.Sink c.args.out.now
