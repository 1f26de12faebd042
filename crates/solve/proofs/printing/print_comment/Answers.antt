use Rattle.std.proofs.Common.{◌∙◌, sym}
use Rattle.solve.proofs.CommentLemmas.{no_comments, one_comment}
use Rattle.solve.proofs.printing.print_comment.Goals as goal

pub returns-then-failed : goal.returns-then-failed
returns-then-failed g c = no_comments g.O.Sink c.args.out.now

pub returns : goal.returns
returns g c =
    one_comment g.O.Sink c.args.out.now c.write_comment.new.out c.write_comment.result c.args.words.now
    (sym c.failed.ensures ∙ c.if-failed.false) c.write_comment.ensures.failed c.write_comment.ensures.text
