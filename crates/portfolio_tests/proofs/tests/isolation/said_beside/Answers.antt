use Rattle.std.proofs.Common.{List, false, map, subst}
use Rattle.stream_check.specs.declared.report.Report.{Report}
use Rattle.stream_check.specs.Closed.{IsOfStream}
use Rattle.test_support.specs.declared.devices.Pieces.{Pieces}
use Rattle.run_outcome.specs.lemmas.ResultLemmas.{if_both}
use Rattle.portfolio_tests.proofs.AloneLemmas.{first_within}
use Rattle.portfolio_tests.proofs.tests.isolation.said_beside.Goals as goal

pub returns-in_ok-outcome-in-Threads : goal.returns-in_ok-outcome-in-Threads
returns-in_ok-outcome-in-Threads g c =
    if_both c.first_report.result c.first_report.ensures.report c.first_report.ensures.failed
    (λ report says fine. c.in_ok-outcome-in-Threads.ensures.only first_within report
    (subst (λ (reports : List Report). IsOfStream reports 1 report) c.deref.ensures.value says)
    (subst (λ (readers : List Pieces). IsOfStream (map (λ r. r.failed) readers) 1 false) c.deref-in-Threads.ensures.value fine))

pub returns-in_ok-outcome-in-Serial : goal.returns-in_ok-outcome-in-Serial
returns-in_ok-outcome-in-Serial g c =
    if_both c.first_report-in-Serial.result c.first_report-in-Serial.ensures.report c.first_report-in-Serial.ensures.failed
    (λ report says fine. c.in_ok-outcome-in-Serial.ensures first_within report
    (subst (λ (reports : List Report). IsOfStream reports 1 report) c.deref-in-Serial.ensures.value says)
    (subst (λ (readers : List Pieces). IsOfStream (map (λ r. r.failed) readers) 1 false) c.deref-in-Serial-2.ensures.value fine))
