use Rattle.std.proofs.Common.{refl}
use Rattle.lrup_text.specs.lemmas.WritingLemmas.{at_err, breaks_more, breaks_then, puts_then, puts_all_next}
use Rattle.stream_check.specs.Faults.{number_text}
use Rattle.run_files.proofs.fault.put_cause.Goals as goal

pub returns-in_err-put-clause-puts : goal.returns-in_err-put-clause-puts
returns-in_err-put-clause-puts g c =
    at_err c.from_residual.result _ _ c.from_residual.ensures.0
    (breaks_more (breaks_more c.in_err-put.ensures.puts (number_text c.args.cause.now.number)) c.args.cause.now.rest.now)

pub returns-in_err-put_if_any-clause-puts : goal.returns-in_err-put_if_any-clause-puts
returns-in_err-put_if_any-clause-puts g c =
    at_err c.from_residual-in_err-put_if_any.result _ _ c.from_residual-in_err-put_if_any.ensures.0
    (breaks_more (breaks_then c.in_ok-put.ensures.puts c.in_err-put_if_any.ensures.puts) c.args.cause.now.rest.now)

pub returns-clause-puts : goal.returns-clause-puts
returns-clause-puts g c =
    puts_all_next c.put-2.result _ _ _ (puts_then c.in_ok-put.ensures.puts c.in_ok-put_if_any.ensures.puts) c.put-2.ensures.puts refl
