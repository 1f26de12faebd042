-- Lemmas about lists of any type.
use Rattle.std.proofs.Common.{◌≡◌, List, [], ◌∷◌, ◌++◌, None, map, sym, ap, ◌∙◌, append_assoc, append-nil}
use Rattle.std.specs.List.{AllByRecursion}
use Rattle.std.specs.declared.vec.IntoIter.{IntoIter}
use Rattle.std.specs.Vec.Iter.{into_iter_items, into_iter_steps}
use Rattle.std.proofs.lemmas.List.{map-append, nil_from_length}

pub All-push : {X : Type 0} (P : X → Type 0) (xs : List X) (x : X) → AllByRecursion P xs → P x
    → AllByRecursion P (xs ++ x ∷ [])
All-push P [] x all p = (p, tt)
All-push P (y ∷ xs) x all p = (all.0, All-push P xs x all.1 p)

pub All-append : {X : Type 0} (P : X → Type 0) (xs ys : List X) → AllByRecursion P xs
    → AllByRecursion P ys → AllByRecursion P (xs ++ ys)
All-append P [] ys front back = back
All-append P (x ∷ xs) ys front back = (front.0, All-append P xs ys front.1 back)

pub All-front : {X : Type 0} (P : X → Type 0) (xs ys : List X) → AllByRecursion P (xs ++ ys)
    → AllByRecursion P xs
All-front P [] ys all = tt
All-front P (x ∷ xs) ys all = (all.0, All-front P xs ys all.1)

-- if P implies Q and P is true of all elements, Q is true of all elements
pub All-map : {X : Type 0} (P Q : X → Type 0) → ((x : X) → P x → Q x) → (xs : List X)
    → AllByRecursion P xs → AllByRecursion Q xs
All-map P Q gives [] all = tt
All-map P Q gives (x ∷ xs) all = (gives x all.0, All-map P Q gives xs all.1)

-- Loops over a list, element by element

-- after one more element is taken, the taken and the remaining elements are still the whole list
pub taken_next : {X C : Type 0} (f : X → C) (xs : List X) (x : X) (ys zs : List C) (y : C)
    (all : List C) → ys ≡ y ∷ zs → f x ≡ y
    → map f xs ++ ys ≡ all → map f (xs ++ x ∷ []) ++ zs ≡ all
taken_next {X} {C} f xs x ys zs y all first same before =
    ap (λ (l : List C). l ++ zs) (map-append f xs (x ∷ [])) ∙ append_assoc (map f xs) (f x ∷ []) zs
    ∙ ap (λ (c : C). map f xs ++ (c ∷ zs)) same ∙ ap (λ (l : List C). map f xs ++ l) (sym first) ∙ before

-- an iterator over a list that returns `None` has no elements left
pub iter_end : {A Z : Type 0} (s t : IntoIter A Z) → into_iter_steps s None t
    → into_iter_items s ≡ []
iter_end s t steps = nil_from_length s.rest.items (sym s.rest.ok.0 ∙ steps.0)

-- when the iterator returns `None`, the loop has taken all elements
pub whole_end : {A Z : Type 0} (yielded all : List A) (s t : IntoIter A Z)
    → into_iter_steps s None t → yielded ++ into_iter_items s ≡ all → yielded ≡ all
whole_end yielded all s t steps whole = sym (append-nil yielded) ∙ ap (λ xs. yielded ++ xs) (sym (iter_end s t steps)) ∙ whole
