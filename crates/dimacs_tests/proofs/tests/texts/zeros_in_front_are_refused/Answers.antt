use Rattle.dimacs_tests.proofs.TextLemmas.{zero_in_clause, zero_in_header}
use Rattle.dimacs_tests.proofs.tests.texts.zeros_in_front_are_refused.Goals as goal

pub returns : goal.returns
returns c = record { clause = zero_in_clause; header = zero_in_header }
