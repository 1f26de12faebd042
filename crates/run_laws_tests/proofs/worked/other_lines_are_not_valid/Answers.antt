use Rattle.run_laws_tests.proofs.WorkedLemmas.{no_minus_one, unit_differs}
use Rattle.run_laws_tests.proofs.worked.other_lines_are_not_valid.Goals as goal

pub returns-clause-differs : goal.returns-clause-differs
returns-clause-differs c = unit_differs

pub returns-clause-more : goal.returns-clause-more
returns-clause-more c = no_minus_one
