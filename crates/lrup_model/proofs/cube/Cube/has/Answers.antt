use Rattle.std.proofs.Common.{◌≡◌, ℕ, List, map, sym, ◌∙◌}
use Rattle.std.specs.Prelude.{◌↔◌, IsTrue}
use Rattle.std.specs.Result.{is_ok}
use Rattle.lrup_model.specs.Literal.{code_of, IsCode, max_variable}
use Rattle.lrup_model.specs.internal.Codes.{literal_of}
use Rattle.lrup_model.specs.Clause.{Has}
use Rattle.lrup_model.proofs.CubeCodes.{found}
use Rattle.lrup_model.proofs.cube.Cube.has.Goals as goal

pub returns : goal.returns
returns c =
    let codes : List ℕ = c.self.inside.codes.items in
    let code : IsCode max_variable (code_of c.args.literal) = rw c.code-code.ensures.code at c.code-code.ensures.range in
    let searched = rw c.as_slice.ensures.value at c.binary_search.ensures.position in
    let there : IsTrue (is_ok c.binary_search.result) ↔ Has (map literal_of codes) c.args.literal =
    found codes c.args.literal c.binary_search.result c.self.invariant code (rw c.code-code.ensures.code at searched) in
    let same : map literal_of codes ≡ c.args.self.now = c.self.view_is in (
      (λ is. rw same at (there.0 (sym c.is_ok.ensures.value ∙ is))),
      (λ h. c.is_ok.ensures.value ∙ there.1 (rw same h)),
    )
