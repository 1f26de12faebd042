use Rattle.std.proofs.Common.{◌++◌, ◌∷◌, ◌∙◌, [], ap, rules, sym, w64}
use Rattle.std.proofs.lemmas.Int.{to_z-of_z}
use Rattle.std.specs.Fmt.{signed_decimal}
use Rattle.std.specs.Prelude.{FitsSigned}
use Rattle.lrup_text.specs.Writing.{space}
use Rattle.lrup_text.specs.lemmas.WritingLemmas.{breaks_from_empty, breaks_more, breaks_next, breaks_then}
use Rattle.lrup_text.specs.lemmas.WritingLemmas.{puts_next, puts_then, writes_from_empty}
use Rattle.lrup_model_check.proofs.answering.write_comment.Goals as goal

pub returns-in_err-put-clause-text : goal.returns-in_err-put-clause-text
returns-in_err-put-clause-text g c =
    breaks_from_empty c.from_residual.result c.new-buffer.ensures c.from_residual.ensures.0
    (breaks_more (breaks_more c.in_err-put.ensures.puts (signed_decimal c.args.l ++ space ∷ [])) c.args.rest.now)

pub returns-in_err-put_literal-clause-text : goal.returns-in_err-put_literal-clause-text
returns-in_err-put_literal-clause-text g c =
    let fits : FitsSigned w64 c.value.result = search rules in
    let same = ap (λ z. (c.args.front.now ++ (signed_decimal z ++ space ∷ [])) ++ c.args.rest.now)
    (sym (to_z-of_z w64 c.value.result fits ∙ c.value.ensures.value)) in
    breaks_from_empty c.from_residual-in_err-put_literal.result c.new-buffer.ensures c.from_residual-in_err-put_literal.ensures.0
    (breaks_next c.in_ok-put.ensures.puts c.in_err-put_literal.ensures.puts c.args.rest.now same)

pub returns-in_err-put-2-clause-text : goal.returns-in_err-put-2-clause-text
returns-in_err-put-2-clause-text g c =
    let fits : FitsSigned w64 c.value.result = search rules in
    let same = ap (λ z. c.args.front.now ++ (signed_decimal z ++ space ∷ []))
    (sym (to_z-of_z w64 c.value.result fits ∙ c.value.ensures.value)) in
    breaks_from_empty c.from_residual-in_err-put-2.result c.new-buffer.ensures c.from_residual-in_err-put-2.ensures.0
    (breaks_then (puts_next c.in_ok-put.ensures.puts c.in_ok-put_literal.ensures.puts same) c.in_err-put-2.ensures.puts)

pub returns-clause-text : goal.returns-clause-text
returns-clause-text g c =
    let fits : FitsSigned w64 c.value.result = search rules in
    let same = ap (λ z. c.args.front.now ++ (signed_decimal z ++ space ∷ []))
    (sym (to_z-of_z w64 c.value.result fits ∙ c.value.ensures.value)) in
    let puts = puts_next c.in_ok-put.ensures.puts c.in_ok-put_literal.ensures.puts same in
    writes_from_empty c.flush.result _ c.new-buffer.ensures (puts_then puts c.in_ok-put-2.ensures.puts) c.flush.ensures.text
