use Rattle.std.proofs.Common.{refl, ap, arith}
use Rattle.std.specs.Prelude.{codes}
use Rattle.stream_check.specs.declared.report.Report.{Report}
use Rattle.run_laws_tests.specs.Worked.{one_stream, refutation, run_params_at}
use Rattle.run_laws_tests.proofs.WorkedLemmas.{refutation_is_valid}
use Rattle.test_support.specs.lemmas.WorkedLemmas.{four_is_cnf}
use Rattle.run_laws_tests.proofs.worked.the_refutation_is_counted.Goals as goal
use Rattle.test_support.specs.Worked.{four}

pub returns : goal.returns
returns c cube tries observed observation reports report run at entry says whole =
    let same = c.valid_reported.ensures four (run_params_at one_stream cube tries) 1
    (codes "5 2 0 1 2 0\n6 0 5 3 4 0\n") refutation observed observation reports report
    four_is_cnf (record { vars = refl; clauses = refl; literals = refl })
    (omega arith, omega arith) refutation_is_valid run at entry says whole in
    record {
      added = ap (λ (r : Report). r.added) same;
      deleted = ap (λ (r : Report). r.deleted) same;
      empty = ap (λ (r : Report). r.empty) same;
      ending = ap (λ (r : Report). r.ending) same;
    }
