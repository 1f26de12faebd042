use Rattle.solve.specs.Printing.{PrintsComments}
use Rattle.solve.proofs.hearing.listen.Given as goal

abbrev pub invariant-loop : goal.invariant-loop
invariant-loop g l = PrintsComments g.O.Sink l.fn.out l.out
