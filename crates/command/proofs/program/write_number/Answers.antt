use Rattle.std.specs.Fmt.{decimal}
use Rattle.std.specs.Prelude.{codes}
use Rattle.lrup_text.specs.lemmas.WritingLemmas.{at_err, breaks_more, breaks_then, puts_then, writes_from_empty}
use Rattle.run_files.specs.lemmas.ListLemmas.{starts_empty}
use Rattle.command.proofs.program.write_number.Goals as goal

pub returns-in_err-put-clause-text : goal.returns-in_err-put-clause-text
returns-in_err-put-clause-text g c =
    let broken = breaks_more (breaks_more c.in_err-put.ensures.puts (decimal c.args.number)) (codes "\n") in
    at_err c.from_residual.result _ _ c.from_residual.ensures.0
    (broken.went, broken.rest, starts_empty c.new-buffer.ensures broken.is, broken.appends)

pub returns-in_err-put_number-clause-text : goal.returns-in_err-put_number-clause-text
returns-in_err-put_number-clause-text g c =
    let broken = breaks_more (breaks_then c.in_ok-put.ensures.puts c.in_err-put_number.ensures.puts) (codes "\n") in
    at_err c.from_residual-in_err-put_number.result _ _ c.from_residual-in_err-put_number.ensures.0
    (broken.went, broken.rest, starts_empty c.new-buffer.ensures broken.is, broken.appends)

pub returns-in_err-put-2-clause-text : goal.returns-in_err-put-2-clause-text
returns-in_err-put-2-clause-text g c =
    let puts = puts_then c.in_ok-put.ensures.puts c.in_ok-put_number.ensures.puts in
    let broken = breaks_then puts c.in_err-put-2.ensures.puts in
    at_err c.from_residual-in_err-put-2.result _ _ c.from_residual-in_err-put-2.ensures.0
    (broken.went, broken.rest, starts_empty c.new-buffer.ensures broken.is, broken.appends)

pub returns-clause-text : goal.returns-clause-text
returns-clause-text g c =
    let puts = puts_then c.in_ok-put.ensures.puts c.in_ok-put_number.ensures.puts in
    writes_from_empty c.flush.result _ c.new-buffer.ensures (puts_then puts c.in_ok-put-2.ensures.puts) c.flush.ensures.text
