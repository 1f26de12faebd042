use Rattle.std.proofs.Common.{◌++◌}
use Rattle.std.specs.Prelude.{codes}
use Rattle.std.specs.Fmt.{decimal}
use Rattle.lrup_text.specs.lemmas.WritingLemmas.{breaks_as, breaks_from_empty, breaks_more, breaks_then, puts_next, puts_then}
use Rattle.lrup_text.specs.lemmas.WritingLemmas.{writes_from_empty}
use Rattle.run_outcome.proofs.ReportLines.{numbers-parts}
use Rattle.run_outcome.proofs.report_text.write_wait.Goals as goal

pub returns-in_err-put_numbered-clause-text : goal.returns-in_err-put_numbered-clause-text
returns-in_err-put_numbered-clause-text g c =
    let parts = numbers-parts (codes "lrupd: stream ") (decimal c.args.stream) (codes ": waits for ") (decimal c.args.id) (codes "\n") in
    let broken = breaks_more (breaks_more c.in_err-put_numbered.ensures.puts (codes ": waits for " ++ decimal c.args.id)) (codes "\n") in
    breaks_from_empty c.from_residual.result c.new-buffer.ensures c.from_residual.ensures.0 (breaks_as broken parts)

pub returns-in_err-put_numbered-2-clause-text : goal.returns-in_err-put_numbered-2-clause-text
returns-in_err-put_numbered-2-clause-text g c =
    let parts = numbers-parts (codes "lrupd: stream ") (decimal c.args.stream) (codes ": waits for ") (decimal c.args.id) (codes "\n") in
    let broken = breaks_more (breaks_then c.in_ok-put_numbered.ensures.puts c.in_err-put_numbered-2.ensures.puts) (codes "\n") in
    breaks_from_empty c.from_residual-in_err-put_numbered-2.result c.new-buffer.ensures c.from_residual-in_err-put_numbered-2.ensures.0
    (breaks_as broken parts)

pub returns-in_err-put-clause-text : goal.returns-in_err-put-clause-text
returns-in_err-put-clause-text g c =
    let parts = numbers-parts (codes "lrupd: stream ") (decimal c.args.stream) (codes ": waits for ") (decimal c.args.id) (codes "\n") in
    let puts = puts_then c.in_ok-put_numbered.ensures.puts c.in_ok-put_numbered-2.ensures.puts in
    breaks_from_empty c.from_residual-in_err-put.result c.new-buffer.ensures c.from_residual-in_err-put.ensures.0
    (breaks_as (breaks_then puts c.in_err-put.ensures.puts) parts)

pub returns-clause-text : goal.returns-clause-text
returns-clause-text g c =
    let parts = numbers-parts (codes "lrupd: stream ") (decimal c.args.stream) (codes ": waits for ") (decimal c.args.id) (codes "\n") in
    let puts = puts_then c.in_ok-put_numbered.ensures.puts c.in_ok-put_numbered-2.ensures.puts in
    writes_from_empty c.flush.result _ c.new-buffer.ensures (puts_next puts c.in_ok-put.ensures.puts parts) c.flush.ensures.text
