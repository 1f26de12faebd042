use Rattle.std.proofs.Common.{◌≡◌, [], length, map, sym, subst, ap, ◌∙◌, arith}
use Rattle.std.proofs.lemmas.Bool.Decides.{nat_tests}
use Rattle.std.proofs.lemmas.List.{nil_from_length}
use Rattle.lrup_model.specs.internal.Codes.{literal_of}
use Rattle.lrup_model.specs.Cube.{Within}
use Rattle.lrup_model.specs.lemmas.CubeLemmas.{empty_cube_within}
use Rattle.lrup_model.proofs.cube.Cube.refutes.Goals as goal

pub returns-then-is_empty : goal.returns-then-is_empty
returns-then-is_empty c =
    let none : length c.as_slice.result.now ≡ 0 = grind (arith, nat_tests) in
    let empty : c.self.inside.codes.items ≡ [] = sym c.as_slice.ensures.value ∙ nil_from_length c.as_slice.result.now none in
    let cube : c.args.self.now ≡ [] = sym c.self.view_is ∙ ap (map literal_of) empty in
    let one = empty_cube_within c.args.clause.now in (
      (λ is.
          let nil : length c.args.clause.now ≡ 0 = grind (arith, nat_tests) in
          subst (Within c.args.clause.now) (sym cube) (one.1 (nil_from_length c.args.clause.now nil))),
      (λ h.
          let nil : length c.args.clause.now ≡ 0 = ap length (one.0 (subst (Within c.args.clause.now) cube h)) in
          grind (arith, nat_tests)),
    )
