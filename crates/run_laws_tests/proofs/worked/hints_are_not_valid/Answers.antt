use Rattle.run_laws_tests.proofs.WorkedLemmas.{one_is_no_conflict}
use Rattle.run_laws_tests.proofs.worked.hints_are_not_valid.Goals as goal

pub returns-clause-no_conflict : goal.returns-clause-no_conflict
returns-clause-no_conflict c = λ valid. one_is_no_conflict valid.clauses valid.named valid.shown
