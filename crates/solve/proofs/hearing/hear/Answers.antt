use Rattle.solve.proofs.CommentLemmas.{no_comments}
use Rattle.solve.proofs.hearing.hear.Goals as goal

pub returns-in-Check : goal.returns-in-Check
returns-in-Check g c = no_comments g.O.Sink c.args.out.now

pub returns-in-Signs : goal.returns-in-Signs
returns-in-Signs g c = no_comments g.O.Sink c.args.out.now

pub returns-in-Model : goal.returns-in-Model
returns-in-Model g c = no_comments g.O.Sink c.args.out.now

pub returns-in-Other : goal.returns-in-Other
returns-in-Other g c = no_comments g.O.Sink c.args.out.now
