use Rattle.std.proofs.Common.{◌≡◌, ◌-◌, ◌/◌, ◌≤◌, ◌<◌, ℕ, List, length, get_or, map, sym, subst, ap, ◌∙◌, Some, arith}
use Rattle.std.specs.Prelude.{◌↔◌, slice_get}
use Rattle.std.proofs.lemmas.Option.{get_or_from_slice_get, slice_get_within}
use Rattle.lrup_model.specs.Cube.{IsCubeOver}
use Rattle.lrup_model.specs.internal.Codes.{literal_of}
use Rattle.lrup_model.proofs.CubeCodes.{greatest}
use Rattle.lrup_model.proofs.cube.Cube.vars.Goals as goal

pub returns-in-Some : goal.returns-in-Some
returns-in-Some c n =
    let codes : List ℕ = c.self.inside.codes.items in
    let code : ℕ = c.in-Some.code.now in
    let same : c.as_slice.result.now ≡ codes = c.as_slice.ensures.value in
    let read : slice_get codes (length codes - 1) ≡ Some code = ap (λ (xs : List ℕ). slice_get xs (length xs - 1)) (sym same)
    ∙ sym c.in-Some.ensures.value in
    let last : get_or codes (length codes - 1) 0 ≡ code = get_or_from_slice_get codes (length codes - 1) code 0 read in
    let inside : length codes - 1 < length codes = slice_get_within codes (length codes - 1) code read in
    let is : IsCubeOver n (map literal_of codes) ↔ (get_or codes (length codes - 1) 0 / 2 ≤ n) =
    greatest codes n c.self.invariant (omega arith) in
    let cube : map literal_of codes ≡ c.args.self.now = c.self.view_is in (
      (λ over. let few = is.0 (subst (IsCubeOver n) (sym cube) over) in omega (arith, few, last)),
      (λ few. subst (IsCubeOver n) cube (is.1 (omega (arith, few, last)))),
    )
