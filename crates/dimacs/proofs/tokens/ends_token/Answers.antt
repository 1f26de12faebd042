use Rattle.std.proofs.Common.{◌∙◌, ap, sym, refl}
use Rattle.dimacs.specs.internal.Places.{first_run}
use Rattle.dimacs.proofs.LineLemmas.{ends_from_run, first_run-ended, first_run-nil}
use Rattle.std.proofs.lemmas.List.{nil_from_length}
use Rattle.dimacs.proofs.tokens.ends_token.Goals as goal

pub returns-in-Some : goal.returns-in-Some
returns-in-Some c =
    let b = c.in-Some.field-0-0.now in
    let bs = c.in-Some.field-0-1.now in
    let whole = c.in-Some.ensures.cases.0 in (
      λ yes. ap first_run whole ∙ first_run-ended b bs (sym c.is_separator.ensures ∙ yes),
      λ ends. c.is_separator.ensures ∙ ends_from_run b bs (ap first_run (sym whole) ∙ ends),
    )

pub returns-in-None : goal.returns-in-None
returns-in-None c = (λ _. ap first_run (nil_from_length c.args.rest.now c.in-None.ensures.cases) ∙ first_run-nil, λ _. refl)
