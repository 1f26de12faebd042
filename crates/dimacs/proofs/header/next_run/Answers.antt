use Rattle.std.proofs.Common.{List, ℕ, ap, sym, ◌∙◌}
use Rattle.dimacs.specs.Lines.{runs}
use Rattle.dimacs.specs.internal.Places.{first_run, after_run, with_run}
use Rattle.dimacs.proofs.HeaderLemmas.{runs-at_token, first_run-run}
use Rattle.dimacs.proofs.header.next_run.Goals as goal

pub returns-clause-runs : goal.returns-clause-runs
returns-clause-runs c =
    let at = c.skip_separators.result.now in
    sym c.skip_separators.ensures.same ∙ runs-at_token at c.skip_separators.ensures.place
    ∙ ap (λ (x : List ℕ). with_run x (runs (after_run at))) (sym c.split_run.ensures.run)
    ∙ ap (λ (x : List ℕ). with_run c.split_run.result.0.now (runs x)) (sym c.split_run.ensures.after)

pub returns-clause-whole : goal.returns-clause-whole
returns-clause-whole c =
    ap first_run c.split_run.ensures.run ∙ first_run-run c.skip_separators.result.now ∙ sym c.split_run.ensures.run
