-- Lists that are traversed element by element.
use Rattle.std.proofs.Common.{◌≡◌, ◌++◌, List, [], ◌∷◌, sym, ap, ap₂, ◌∙◌, map, append_assoc}
use Rattle.std.proofs.lemmas.List.{map-append}

pub pushed_more : {A B : Type 0} (f : B → A) (xs zs : List A) (ys : List B) (x : A) (y : B)
    → zs ≡ xs ++ x ∷ [] → xs ≡ map f ys → x ≡ f y → zs ≡ map f (ys ++ y ∷ [])
pushed_more {A} {B} f xs zs ys x y pushed before here = pushed ∙ ap₂ (λ (l : List A) (a : A). l ++ a ∷ []) before here
    ∙ sym (map-append f ys (y ∷ []))

-- if an element moves from the rest of a list to the yielded elements, the whole list stays the
-- same
pub whole_more : {A : Type 0} (yielded before rest all : List A) (x : A) → before ≡ x ∷ rest → yielded ++ before ≡ all
    → (yielded ++ x ∷ []) ++ rest ≡ all
whole_more yielded before rest all x taken whole = append_assoc yielded (x ∷ []) rest ∙ ap (λ xs. yielded ++ xs) (sym taken) ∙ whole
