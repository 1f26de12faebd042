use Rattle.std.proofs.Common.{◌++◌, ◌∙◌, List, ap, rules, sym, w64, ℕ, ℤ}
use Rattle.std.proofs.lemmas.Int.{to_z-of_z}
use Rattle.std.specs.Fmt.{signed_decimal}
use Rattle.std.specs.Prelude.{FitsSigned}
use Rattle.lrup_text.specs.lemmas.WritingLemmas.{at_err, breaks_first, puts_all_next}
use Rattle.solve.proofs.printing.put_value.Goals as goal

pub returns-in_err-put-clause-puts : goal.returns-in_err-put-clause-puts
returns-in_err-put-clause-puts g c =
    at_err c.from_residual.result _ _ c.from_residual.ensures.0
    (breaks_first c.in_err-put.ensures.puts (signed_decimal c.args.value)
    (ap (λ t. t ++ signed_decimal c.args.value) (sym c.value_front.ensures)))

pub returns-clause-puts : goal.returns-clause-puts
returns-clause-puts g c =
    let fits : FitsSigned w64 c.args.value = search rules in
    puts_all_next c.put_number.result _ _ _ c.in_ok-put.ensures.puts c.put_number.ensures.puts
    (ap (λ (t : List ℕ). t ++ signed_decimal c.args.value) (sym c.value_front.ensures)
    ∙ ap (λ (z : ℤ). c.value_front.result.now ++ signed_decimal z) (sym (to_z-of_z w64 c.args.value fits)))
