use Rattle.std.proofs.Common.{codes}
use Rattle.std.specs.Fmt.{decimal}
use Rattle.lrup_text.specs.lemmas.WritingLemmas.{at_err, breaks_more, breaks_then, puts_then, puts_all_next}
use Rattle.run_files.proofs.FaultLemmas.{of_more}
use Rattle.run_files.proofs.fault.put_round.Goals as goal

pub returns-in_err-put-clause-puts : goal.returns-in_err-put-clause-puts
returns-in_err-put-clause-puts g c =
    rw (of_more c.args.round c.if-round-eq1.false)
    (at_err c.from_residual.result _ _ c.from_residual.ensures.0
    (breaks_more (breaks_more c.in_err-put.ensures.puts (decimal c.args.round)) (codes ": ")))

pub returns-in_err-put_number-clause-puts : goal.returns-in_err-put_number-clause-puts
returns-in_err-put_number-clause-puts g c =
    rw (of_more c.args.round c.if-round-eq1.false)
    (at_err c.from_residual-in_err-put_number.result _ _ c.from_residual-in_err-put_number.ensures.0
    (breaks_more (breaks_then c.in_ok-put.ensures.puts c.in_err-put_number.ensures.puts) (codes ": ")))

pub returns-clause-puts : goal.returns-clause-puts
returns-clause-puts g c =
    puts_all_next c.put-2.result _ _ _ (puts_then c.in_ok-put.ensures.puts c.in_ok-put_number.ensures.puts) c.put-2.ensures.puts
    (of_more c.args.round c.if-round-eq1.false)
