use Rattle.dimacs.specs.internal.Places.{lines_at_start}
use Rattle.dimacs.proofs.tokens.Tokens.new.Goals as goal

pub returns : goal.returns
unfolding lines_at_start
returns c = c.skip_comments.ensures.same
