use Rattle.solve.specs.Answers.{IsProved}
use Rattle.solve.specs.Printing.{PrintsComments}
use Rattle.solve.proofs.program.hear_and_check.Given as goal

abbrev pub invariant-loop : goal.invariant-loop
invariant-loop g l = record {
  proved : IsProved l.formula l.cube l.verdict;
  printed : PrintsComments g.O.Sink l.fn.out l.out;
}
