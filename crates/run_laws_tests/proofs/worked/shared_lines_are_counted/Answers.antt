use Rattle.std.proofs.Common.{true, refl, ap, inl, inr}
use Rattle.std.specs.Fmt.{digits}
use Rattle.stream_check.specs.declared.report.Report.{Report}
use Rattle.run_laws_tests.specs.Worked.{shared, two_streams, run_params_at}
use Rattle.run_laws_tests.proofs.WorkedLemmas.{shared_is_valid}
use Rattle.test_support.specs.lemmas.WorkedLemmas.{four_is_cnf}
use Rattle.run_laws_tests.proofs.worked.shared_lines_are_counted.Goals as goal
use Rattle.test_support.specs.Worked.{four}

pub returns : goal.returns
unfolding digits
returns c cube tries observed observation reports report run texts at entry says whole =
    elim (c.valid_together.ensures four (run_params_at two_streams cube tries) (λ s. true) shared observed reports 2 observation report
    four_is_cnf (record { vars = refl; clauses = refl; literals = refl }) shared_is_valid
    (refl, (refl, (refl, (refl, tt)))) run texts refl at entry says whole) [
      | inl same ↦ inl (record {
        added = ap (λ (r : Report). r.added) same;
        deleted = ap (λ (r : Report). r.deleted) same;
        empty = ap (λ (r : Report). r.empty) same;
        ending = ap (λ (r : Report). r.ending) same;
      })
      | inr lacks ↦ inr lacks
    ]
