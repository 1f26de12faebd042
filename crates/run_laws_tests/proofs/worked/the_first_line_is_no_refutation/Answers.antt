use Rattle.std.proofs.Common.{◌++◌, ◌∙◌, ap, List, ℕ}
use Rattle.run_laws_tests.proofs.WorkedLemmas.{no_empty_begins}
use Rattle.run_laws_tests.proofs.worked.the_first_line_is_no_refutation.Goals as goal

pub returns : goal.returns
returns c = λ refutes.
    no_empty_begins c.bytes_begin_with_one_line.ensures c.no_bytes_may_become_a_line.ensures
    refutes.lines refutes.more refutes.valid.fits (refutes.begins ∙ ap (λ (bytes : List ℕ). bytes ++ refutes.more) refutes.valid.text)
    refutes.empty
