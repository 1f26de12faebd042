use Rattle.std.proofs.Common.{◌≤◌, arith}
use Rattle.lrup_model.specs.Clause.{Has}
use Rattle.lrup_model.specs.Cube.{IsCubeOver}
use Rattle.lrup_model.specs.lemmas.ClauseLemmas.{All-from_Has}
use Rattle.model_check.proofs.EvaluationLemmas.{code_within}
use Rattle.model_check.proofs.evaluation.first_missing.Goals as goal

pub overflow_mul-code-end : goal.overflow_mul-code-end
overflow_mul-code-end c =
    let most : c.vars.result ≤ c.args.vars = (c.vars.ensures c.args.vars).0 c.requires.over in
    omega (arith, most, c.requires.few)

pub overflow_add-code-end : goal.overflow_add-code-end
overflow_add-code-end c =
    let most : c.vars.result ≤ c.args.vars = (c.vars.ensures c.args.vars).0 c.requires.over in
    omega (arith, most, c.requires.few)

pub loop-code-init : goal.loop-code-init
loop-code-init c =
    λ literals marks x here below.
    let within = code_within c.args.vars c.args.cube.now x c.requires.over here in
    absurd (omega (arith, within.0, below))

pub from_code-l-requires : goal.from_code-l-requires
from_code-l-requires c =
    let most : c.vars.result ≤ c.args.vars = (c.vars.ensures c.args.vars).0 c.requires.over in
    (omega arith, omega (arith, most, c.requires.few))

pub returns : goal.returns
returns c =
    λ literals marks.
    let over : IsCubeOver c.vars.result c.args.cube.now = (c.vars.ensures c.vars.result).1 (omega arith) in
    All-from_Has (Has literals) c.args.cube.now
    (λ x here. let within = code_within c.vars.result c.args.cube.now x over here in
    c.loop-code.invariant literals marks x here (omega (arith, within.1)))
