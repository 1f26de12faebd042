use Rattle.std.proofs.Common.{◌≡◌, ap, sym, ◌∙◌, length, eq-eqb}
use Rattle.std.proofs.lemmas.Bool.{eqb-true}
use Rattle.std.proofs.lemmas.List.{nil_from_length}
use Rattle.lrup_model.specs.internal.Pieces.{pieces}
use Rattle.lrup_model.proofs.PieceLemmas.{length-pieces}
use Rattle.lrup_model.proofs.formula.Formula.is_empty.Goals as goal

pub returns : goal.returns
returns c =
    rw (← c.self.view_is)
    (let ls = c.self.inside.literals.items in
    let ends = c.self.inside.ends.items in
    let count : length (pieces ls 0 ends) ≡ length c.as_slice.result.now = length-pieces ls 0 ends
    ∙ sym (ap length c.as_slice.ensures.value) in (
      λ yes. nil_from_length (pieces ls 0 ends) (count ∙ eqb-true (length c.as_slice.result.now) 0 (sym c.is_empty.ensures ∙ yes)),
      λ none. c.is_empty.ensures ∙ eq-eqb (length c.as_slice.result.now) 0 (sym count ∙ ap length none),
    ))
