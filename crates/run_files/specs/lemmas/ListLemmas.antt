-- Lemmas about lists (this project's own).
use Rattle.std.proofs.Common.{◌≡◌, ◌++◌, ◌∙◌, ℕ, List, [], sym, ap}

-- a text that follows nothing is the whole text
pub starts_empty : {held text all : List ℕ} → held ≡ [] → held ++ text ≡ all → text ≡ all
starts_empty {held} {text} {all} empty is = sym (ap (λ h. h ++ text) empty) ∙ is
