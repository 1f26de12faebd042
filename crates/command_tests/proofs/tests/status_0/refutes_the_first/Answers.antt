use Rattle.std.proofs.Common.{◌≡◌, ◌∙◌, ◌++◌, ◌<◌, ℕ, List, [], ◌∷◌, Some, length, refl, sym, ap, subst}
use Rattle.std.specs.List.{FoldsTo, concat}
use Rattle.std.proofs.lemmas.Bool.{eqb-true}
use Rattle.std.proofs.lemmas.List.{append-nil, append_assoc}
use Rattle.lrup_text.specs.Reads.{GaveAll, ReadsOf}
use Rattle.dimacs.specs.FormulaText.{IsFormulaText}
use Rattle.command_tests.proofs.tests.status_0.refutes_the_first.Goals as goal

-- If each read takes its bytes from the front of what is left, then together the reads gave
-- everything that was left at first.
module _ {S : Type 0} (left : S → List ℕ) (reads : ReadsOf S)
    (account : (before : S) (room : ℕ) (piece : List ℕ) (after : S) → reads before room (Some piece) after
    → (left before ≡ piece ++ left after) × (piece ≡ [] → 0 < room → left after ≡ [])) where
  gave_front : (first : S) (pieces : List (List ℕ)) (last : S)
      → FoldsTo (λ source piece after. (room : ℕ) × reads source room (Some piece) after × (0 < length piece)) first pieces last
      → left first ≡ concat pieces ++ left last
  gave_front first [] last same = ap left same
  gave_front first (piece ∷ pieces) last calls =
      let read = account first calls.1.0 piece calls.0 calls.1.1 in
      read.0 ∙ ap (λ rest. piece ++ rest) (gave_front calls.0 pieces last calls.2) ∙ sym (append_assoc piece (concat pieces) (left last))

  gave_left : (first : S) (bytes : List ℕ) → GaveAll S reads first bytes → left first ≡ bytes
  gave_left first bytes all =
      let ends = account all.last all.room [] all.after all.end in
      let none : left all.last ≡ [] = ends.0 ∙ ends.1 refl all.some in
      gave_front first all.given.pieces all.last all.given.calls ∙ ap (λ rest. concat all.given.pieces ++ rest) none
      ∙ append-nil (concat all.given.pieces) ∙ sym all.given.whole

pub returns : goal.returns
returns g c zero =
    let named = c.command.ensures.sound (eqb-true c.command.result 0 zero) in
    let same = gave_left _ _ (λ before room piece after read. (read.0, read.2)) named.6.reader named.2 named.6.gave in
    (named.3, subst (λ (bytes : List ℕ). IsFormulaText bytes named.3) (sym same ∙ named.6.opened.0) named.7, named.8)
