use Rattle.dimacs.proofs.SetLemmas.{MarksAre-none}
use Rattle.dimacs.proofs.open_clause.OpenClause.new.Goals as goal

pub invariant_of-result : goal.invariant_of-result
invariant_of-result c = rw (c.new.ensures.items, c.new-2.ensures.items) (tt, MarksAre-none)
