use Rattle.std.proofs.Common.{ℤ, List, subst}
use Rattle.lrup_model.specs.Cube.{IsCubeOf}
use Rattle.lrup_text.proofs.CubeTexts.{printed_cube}
use Rattle.lrup_text.proofs.cube.read_cube.Goals as goal

pub returns-clause-cube : goal.returns-clause-cube
returns-clause-cube c =
    let literals = c.in_ok-literals.literals.items in
    let set = subst (λ (zs : List ℤ). IsCubeOf zs c.in_ok-of.field-0) c.deref.ensures.value c.in_ok-of.ensures in
    printed_cube c.args.vars literals c.args.bytes.now c.in_ok-of.field-0 c.in_ok-literals.ensures.text c.in_ok-literals.ensures.over set
