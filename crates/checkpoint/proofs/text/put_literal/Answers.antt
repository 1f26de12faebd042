use Rattle.std.specs.Prelude.{FitsSigned, codes}
use Rattle.std.specs.Fmt.{signed_decimal}
use Rattle.std.proofs.Common.{◌++◌, ap, sym, ◌∙◌, rules, w64}
use Rattle.std.proofs.lemmas.Int.{to_z-of_z}
use Rattle.checkpoint.proofs.PrintLemmas.{puts_all_as}
use Rattle.checkpoint.proofs.text.put_literal.Goals as goal

pub returns-clause-puts : goal.returns-clause-puts
returns-clause-puts g c =
    let fits : FitsSigned w64 c.value.result = search rules in
    let same = ap (λ z. signed_decimal z ++ codes " ") (sym (to_z-of_z w64 c.value.result fits ∙ c.value.ensures.value)) in
    puts_all_as c.put_literal.result _ _ _ _ c.put_literal.ensures.puts same
