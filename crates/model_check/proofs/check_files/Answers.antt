use Rattle.std.proofs.Common.{ℕ, subst}
use Rattle.model_check.specs.Answers.{IsAssumed, bytes_of}
use Rattle.model_check.specs.lemmas.CubeLemmas.{assumed_over}
use Rattle.model_check.proofs.check_files.Goals as goal

pub evaluate-requires-clause-over : goal.evaluate-requires-clause-over
evaluate-requires-clause-over c =
    let bytes = bytes_of c.args.assumed in
    let cube = c.in_ok-cube.cube in
    assumed_over c.in_ok-formula.formula.vars bytes cube
    (subst (λ (n : ℕ). IsAssumed n bytes cube) c.vars.ensures.vars c.in_ok-cube.ensures.cube)
