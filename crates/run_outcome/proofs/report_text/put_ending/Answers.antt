use Rattle.std.proofs.Common.{ap}
use Rattle.std.specs.Prelude.{codes}
use Rattle.stream_check.specs.Faults.{fault_text}
use Rattle.lrup_text.specs.lemmas.WritingLemmas.{at_err, breaks_as, breaks_more, breaks_then, puts_then, puts_all_next}
use Rattle.run_outcome.specs.ReportText.{ending_text}
use Rattle.run_outcome.proofs.report_text.put_ending.Goals as goal

pub returns-in_err-put_numbered-in-Bad-clause-puts : goal.returns-in_err-put_numbered-in-Bad-clause-puts
returns-in_err-put_numbered-in-Bad-clause-puts g c =
    let broken = breaks_more c.in_err-put_numbered-in-Bad.ensures.puts (codes " (") in
    at_err c.from_residual.result _ _ c.from_residual.ensures.0
    (breaks_as (breaks_more (breaks_more broken (fault_text c.in-Bad.fault)) (codes ")")) (ap ending_text c.in-Bad.is))

pub returns-in_err-put-in-Bad-clause-puts : goal.returns-in_err-put-in-Bad-clause-puts
returns-in_err-put-in-Bad-clause-puts g c =
    let broken = breaks_then c.in_ok-put_numbered-in-Bad.ensures.puts c.in_err-put-in-Bad.ensures.puts in
    at_err c.from_residual-in_err-put-in-Bad.result _ _ c.from_residual-in_err-put-in-Bad.ensures.0
    (breaks_as (breaks_more (breaks_more broken (fault_text c.in-Bad.fault)) (codes ")")) (ap ending_text c.in-Bad.is))

pub returns-in_err-put_fault-in-Bad-clause-puts : goal.returns-in_err-put_fault-in-Bad-clause-puts
returns-in_err-put_fault-in-Bad-clause-puts g c =
    let puts = puts_then c.in_ok-put_numbered-in-Bad.ensures.puts c.in_ok-put-in-Bad.ensures.puts in
    at_err c.from_residual-in_err-put_fault-in-Bad.result _ _ c.from_residual-in_err-put_fault-in-Bad.ensures.0
    (breaks_as (breaks_more (breaks_then puts c.in_err-put_fault-in-Bad.ensures.puts) (codes ")")) (ap ending_text c.in-Bad.is))

pub returns-in_ok-put_fault-in-Bad-clause-puts : goal.returns-in_ok-put_fault-in-Bad-clause-puts
returns-in_ok-put_fault-in-Bad-clause-puts g c =
    let puts = puts_then c.in_ok-put_numbered-in-Bad.ensures.puts c.in_ok-put-in-Bad.ensures.puts in
    puts_all_next c.put-in-Bad-2.result _ _ _ (puts_then puts c.in_ok-put_fault-in-Bad.ensures.puts) c.put-in-Bad-2.ensures.puts
    (ap ending_text c.in-Bad.is)
