use Rattle.std.proofs.Common.{[]}
use Rattle.std.specs.Prelude.{codes}
use Rattle.run_laws_tests.proofs.WorkedLemmas.{begins_and_refutes}
use Rattle.run_laws_tests.proofs.worked.the_stream_is_valid.Goals as goal

pub returns-clause-whole : goal.returns-clause-whole
returns-clause-whole c = begins_and_refutes []

pub returns-clause-torn : goal.returns-clause-torn
returns-clause-torn c = begins_and_refutes (codes "7 0 5")

pub returns-clause-any_more : goal.returns-clause-any_more
returns-clause-any_more c = begins_and_refutes
