use Rattle.std.proofs.Common.{◌++◌, refl, inl, inr, arith}
use Rattle.std.specs.Prelude.{codes}
use Rattle.run_laws_tests.specs.Worked.{one_stream, refutation, run_params_at}
use Rattle.run_laws_tests.proofs.WorkedLemmas.{refutation_is_valid}
use Rattle.test_support.specs.lemmas.WorkedLemmas.{four_is_cnf}
use Rattle.run_laws_tests.proofs.worked.the_beginning_is_counted.Goals as goal
use Rattle.test_support.specs.Worked.{four}

pub returns : goal.returns
returns c cube tries observed observation reports report more run at entry says =
    elim (c.valid_begins.ensures four (run_params_at one_stream cube tries) 1
    (codes "5 2 0 1 2 0\n6 0 5 3 4 0\n") more refutation observed observation reports report
    four_is_cnf (record { vars = refl; clauses = refl; literals = refl }) (omega arith, omega arith)
    refutation_is_valid run at entry says) [
      | inl shows ↦ inl (shows.added, shows.empty refl)
      | inr cut ↦ inr cut
    ]
