use Rattle.std.proofs.Common.{arith, ◌≡◌, ◌+◌, ap, length, ◌∙◌}
use Rattle.lrup_model.specs.Formula.{formula_literals}
use Rattle.lrup_model.specs.internal.Pieces.{pieces}
use Rattle.std.specs.List.{sum_by}
use Rattle.lrup_model.proofs.PieceLemmas.{sum_by-pieces}
use Rattle.lrup_model.proofs.formula.Formula.literals.Goals as goal

pub returns : goal.returns
returns c =
    let all : sum_by length (pieces c.self.inside.literals.items 0 c.self.inside.ends.items) + 0 ≡ length c.self.inside.literals.items =
    sum_by-pieces c.self.inside.literals.items 0 c.self.inside.ends.items c.self.invariant.1 in
    let slice : length c.as_slice.result.now ≡ length c.self.inside.literals.items = ap length c.as_slice.ensures.value in
    let same : length c.as_slice.result.now ≡ sum_by length (pieces c.self.inside.literals.items 0 c.self.inside.ends.items) =
    omega (arith, all, slice) in
    same ∙ ap formula_literals c.self.view_is
