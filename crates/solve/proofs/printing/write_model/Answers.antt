use Rattle.std.proofs.Common.{◌++◌, ◌∷◌, []}
use Rattle.std.specs.Prelude.{pos}
use Rattle.lrup_text.specs.lemmas.WritingLemmas.{breaks_from_empty, breaks_more, breaks_then, puts_then, writes_from_empty}
use Rattle.solve.specs.Printing.{values_text}
use Rattle.solve.proofs.printing.write_model.Goals as goal

pub returns-in_err-put-clause-text : goal.returns-in_err-put-clause-text
returns-in_err-put-clause-text g c =
    breaks_from_empty c.from_residual.result c.new-buffer.ensures c.from_residual.ensures.0
    (breaks_more c.in_err-put.ensures.puts (values_text (c.args.literals.now ++ pos 0 ∷ []) 10))

pub returns-in_err-put_values-clause-text : goal.returns-in_err-put_values-clause-text
returns-in_err-put_values-clause-text g c =
    breaks_from_empty c.from_residual-in_err-put_values.result c.new-buffer.ensures
    c.from_residual-in_err-put_values.ensures.0
    (breaks_then c.in_ok-put.ensures.puts c.in_err-put_values.ensures.puts)

pub returns-clause-text : goal.returns-clause-text
returns-clause-text g c =
    writes_from_empty c.flush.result _ c.new-buffer.ensures
    (puts_then c.in_ok-put.ensures.puts c.in_ok-put_values.ensures.puts) c.flush.ensures.text
