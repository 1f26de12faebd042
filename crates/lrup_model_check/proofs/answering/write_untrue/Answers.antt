use Rattle.std.specs.Fmt.{decimal}
use Rattle.std.specs.Prelude.{codes}
use Rattle.lrup_text.specs.lemmas.WritingLemmas.{breaks_from_empty, breaks_more, breaks_then, puts_then, writes_from_empty}
use Rattle.lrup_model_check.proofs.answering.write_untrue.Goals as goal

pub returns-in_err-put-clause-text : goal.returns-in_err-put-clause-text
returns-in_err-put-clause-text g c =
    breaks_from_empty c.from_residual.result c.new-buffer.ensures c.from_residual.ensures.0
    (breaks_more (breaks_more c.in_err-put.ensures.puts (decimal c.args.number)) (codes " has no true literal\n"))

pub returns-in_err-put_number-clause-text : goal.returns-in_err-put_number-clause-text
returns-in_err-put_number-clause-text g c =
    breaks_from_empty c.from_residual-in_err-put_number.result c.new-buffer.ensures c.from_residual-in_err-put_number.ensures.0
    (breaks_more (breaks_then c.in_ok-put.ensures.puts c.in_err-put_number.ensures.puts) (codes " has no true literal\n"))

pub returns-in_err-put-2-clause-text : goal.returns-in_err-put-2-clause-text
returns-in_err-put-2-clause-text g c =
    breaks_from_empty c.from_residual-in_err-put-2.result c.new-buffer.ensures c.from_residual-in_err-put-2.ensures.0
    (breaks_then (puts_then c.in_ok-put.ensures.puts c.in_ok-put_number.ensures.puts) c.in_err-put-2.ensures.puts)

pub returns-clause-text : goal.returns-clause-text
returns-clause-text g c =
    let puts = puts_then c.in_ok-put.ensures.puts c.in_ok-put_number.ensures.puts in
    writes_from_empty c.flush.result _ c.new-buffer.ensures (puts_then puts c.in_ok-put-2.ensures.puts) c.flush.ensures.text
