use Rattle.std.proofs.Common.{refl}
use Rattle.std.specs.Fmt.{decimal}
use Rattle.lrup_text.specs.lemmas.WritingLemmas.{at_err, breaks_more, puts_all_next}
use Rattle.run_outcome.proofs.report_text.put_numbered.Goals as goal

pub returns-in_err-put-clause-puts : goal.returns-in_err-put-clause-puts
returns-in_err-put-clause-puts g c =
    at_err c.from_residual.result _ _ c.from_residual.ensures.0 (breaks_more c.in_err-put.ensures.puts (decimal c.args.number))

pub returns-clause-puts : goal.returns-clause-puts
returns-clause-puts g c = puts_all_next c.put_number.result _ _ _ c.in_ok-put.ensures.puts c.put_number.ensures.puts refl
