-- Lemmas about reads of a source, one after another.
use Rattle.std.proofs.Common.{◌≡◌, ◌∙◌, ◌++◌, ◌<◌, ℕ, List, [], ◌∷◌, Some, ap, append-nil, length, refl, sym}
use Rattle.std.proofs.lemmas.Fn.{FoldsTo-push}
use Rattle.std.proofs.lemmas.List.Folds.{concat-append}
use Rattle.std.specs.List.{concat}
use Rattle.lrup_text.specs.Reads.{Gave, ReadsOf}

-- without reads, no bytes are given
pub gave_none : (S : Type 0) (reads : ReadsOf S) (first : S) → Gave S reads first [] first
gave_none S reads first = record { pieces = []; calls = refl; whole = refl }

-- one more read appends its piece to the bytes that were given
pub gave_more : (S : Type 0) (reads : ReadsOf S) (first mid last : S)
    (before piece after : List ℕ) (room : ℕ)
    → Gave S reads first before mid → reads mid room (Some piece) last → 0 < length piece
    → after ≡ before ++ piece → Gave S reads first after last
gave_more S reads first mid last before piece after room gave read some is = record {
  pieces = gave.pieces ++ piece ∷ [];
  calls = FoldsTo-push (λ source given next. (room : ℕ) × reads source room (Some given) next × (0 < length given)) first gave.pieces mid piece last gave.calls (room, read, some);
  whole = is ∙ ap (λ l. l ++ piece) gave.whole ∙ ap (λ l. concat gave.pieces ++ l) (sym (append-nil piece))
      ∙ sym (concat-append gave.pieces (piece ∷ []));
}
