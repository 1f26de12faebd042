use Rattle.std.proofs.Common.{◌++◌, ap, map, sym}
use Rattle.std.specs.Prelude.{codes}
use Rattle.lrup_text.specs.lemmas.WritingLemmas.{breaks_from_empty, breaks_more, breaks_next, breaks_then}
use Rattle.lrup_text.specs.lemmas.WritingLemmas.{puts_next, puts_then, writes_from_empty}
use Rattle.solve.specs.Printing.{shown}
use Rattle.solve.proofs.printing.write_comment.Goals as goal

pub returns-in_err-put-clause-text : goal.returns-in_err-put-clause-text
returns-in_err-put-clause-text g c =
    breaks_from_empty c.from_residual.result c.new-buffer.ensures c.from_residual.ensures.0
    (breaks_more (breaks_more c.in_err-put.ensures.puts (map shown c.args.words.now)) (codes "\n"))

pub returns-in_err-put-2-clause-text : goal.returns-in_err-put-2-clause-text
returns-in_err-put-2-clause-text g c =
    let same = ap (λ t. (codes "c " ++ t) ++ codes "\n") (sym c.clean.ensures) in
    breaks_from_empty c.from_residual-in_err-put-2.result c.new-buffer.ensures c.from_residual-in_err-put-2.ensures.0
    (breaks_next c.in_ok-put.ensures.puts c.in_err-put-2.ensures.puts (codes "\n") same)

pub returns-in_err-put-3-clause-text : goal.returns-in_err-put-3-clause-text
returns-in_err-put-3-clause-text g c =
    let same = ap (λ t. codes "c " ++ t) (sym c.clean.ensures) in
    breaks_from_empty c.from_residual-in_err-put-3.result c.new-buffer.ensures c.from_residual-in_err-put-3.ensures.0
    (breaks_then (puts_next c.in_ok-put.ensures.puts c.in_ok-put-2.ensures.puts same) c.in_err-put-3.ensures.puts)

pub returns-clause-text : goal.returns-clause-text
returns-clause-text g c =
    let same = ap (λ t. codes "c " ++ t) (sym c.clean.ensures) in
    let puts = puts_next c.in_ok-put.ensures.puts c.in_ok-put-2.ensures.puts same in
    writes_from_empty c.flush.result _ c.new-buffer.ensures (puts_then puts c.in_ok-put-3.ensures.puts) c.flush.ensures.text
