use Rattle.std.specs.Prelude.{codes}
use Rattle.std.specs.Fmt.{decimal}
use Rattle.lrup_text.specs.lemmas.WritingLemmas.{at_err, breaks_more, breaks_then, puts_then, puts_all_next}
use Rattle.std.proofs.Common.{refl}
use Rattle.checkpoint.proofs.text.put_header.Goals as goal

pub returns-in_err-put-clause-puts : goal.returns-in_err-put-clause-puts
returns-in_err-put-clause-puts g c =
    let first = breaks_more (breaks_more c.in_err-put.ensures.puts (decimal c.args.vars)) (codes " ") in
    at_err c.from_residual.result _ _ c.from_residual.ensures.0 (breaks_more (breaks_more first (decimal c.args.count)) (codes "\n"))

pub returns-in_err-put_number-clause-puts : goal.returns-in_err-put_number-clause-puts
returns-in_err-put_number-clause-puts g c =
    let first = breaks_more (breaks_then c.in_ok-put.ensures.puts c.in_err-put_number.ensures.puts) (codes " ") in
    at_err c.from_residual-in_err-put_number.result _ _ c.from_residual-in_err-put_number.ensures.0
    (breaks_more (breaks_more first (decimal c.args.count)) (codes "\n"))

pub returns-in_err-put-2-clause-puts : goal.returns-in_err-put-2-clause-puts
returns-in_err-put-2-clause-puts g c =
    let puts = puts_then c.in_ok-put.ensures.puts c.in_ok-put_number.ensures.puts in
    at_err c.from_residual-in_err-put-2.result _ _ c.from_residual-in_err-put-2.ensures.0
    (breaks_more (breaks_more (breaks_then puts c.in_err-put-2.ensures.puts) (decimal c.args.count)) (codes "\n"))

pub returns-in_err-put_number-2-clause-puts : goal.returns-in_err-put_number-2-clause-puts
returns-in_err-put_number-2-clause-puts g c =
    let puts = puts_then (puts_then c.in_ok-put.ensures.puts c.in_ok-put_number.ensures.puts) c.in_ok-put-2.ensures.puts in
    at_err c.from_residual-in_err-put_number-2.result _ _ c.from_residual-in_err-put_number-2.ensures.0
    (breaks_more (breaks_then puts c.in_err-put_number-2.ensures.puts) (codes "\n"))

pub returns-clause-puts : goal.returns-clause-puts
returns-clause-puts g c =
    let puts = puts_then (puts_then c.in_ok-put.ensures.puts c.in_ok-put_number.ensures.puts) c.in_ok-put-2.ensures.puts in
    puts_all_next c.put-3.result _ _ _ (puts_then puts c.in_ok-put_number-2.ensures.puts) c.put-3.ensures.puts refl
