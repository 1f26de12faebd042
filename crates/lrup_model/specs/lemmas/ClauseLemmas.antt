-- Lemmas about the literals of a clause.
use Rattle.std.proofs.Common.{◌≡◌, ◌≢◌, ◌⊎◌, inl, inr, ℕ, zero, suc, ◌+◌, ◌<◌, ℤ, List, [], ◌∷◌, ◌++◌, length, get_or, take, Some, refl, sym, ap, subst, ◌∙◌, add-one}
use Rattle.std.specs.Prelude.{slice_get}
use Rattle.std.specs.List.{AllByRecursion}
use Rattle.std.specs.Ordering.{int_eq}
use Rattle.std.proofs.lemmas.Bool.Decides.{Decides-int_eq}
use Rattle.std.proofs.lemmas.Bool.{cases_Bool, false≢true}
use Rattle.std.proofs.lemmas.Option.{slice_get_read}
use Rattle.lrup_model.specs.Clause.{Has, EachOnce}

pub Has-append_left : (xs ys : List ℤ) (l : ℤ) → Has xs l → Has (xs ++ ys) l
Has-append_left [] ys l h = absurd h
Has-append_left (x ∷ xs) ys l (inl e) = inl e
Has-append_left (x ∷ xs) ys l (inr h) = inr (Has-append_left xs ys l h)

pub Has-append_right : (xs ys : List ℤ) (l : ℤ) → Has ys l → Has (xs ++ ys) l
Has-append_right [] ys l h = h
Has-append_right (x ∷ xs) ys l h = inr (Has-append_right xs ys l h)

pub Has-append_cases : (xs ys : List ℤ) (l : ℤ) → Has (xs ++ ys) l → Has xs l ⊎ Has ys l
Has-append_cases [] ys l h = inr h
Has-append_cases (x ∷ xs) ys l (inl e) = inl (inl e)
Has-append_cases (x ∷ xs) ys l (inr h) = elim (Has-append_cases xs ys l h) [ inl a ↦ inl (inr a) | inr b ↦ inr b ]

pub Has-push : (xs : List ℤ) (x : ℤ) → Has (xs ++ x ∷ []) x
Has-push xs x = Has-append_right xs (x ∷ []) x (inl refl)

pub Has-push_cases : (xs : List ℤ) (x l : ℤ) → Has (xs ++ x ∷ []) l → Has xs l ⊎ (x ≡ l)
Has-push_cases xs x l h = elim (Has-append_cases xs (x ∷ []) l h) [ inl a ↦ inl a | inr b ↦ elim b [ inl e ↦ inr e | inr n ↦ absurd n ] ]

pub int_cases : (x y : ℤ) → (x ≡ y) ⊎ (x ≢ y)
int_cases x y =
    elim (cases_Bool (int_eq x y)) [ inl t ↦ inl ((Decides-int_eq x y).0 t) | inr f ↦ inr (λ e. false≢true (sym f ∙ (Decides-int_eq x y).1 e)) ]

pub Has_cases : (xs : List ℤ) (l : ℤ) → Has xs l ⊎ (¬ Has xs l)
Has_cases [] l = inr (λ h. h)
Has_cases (x ∷ xs) l =
    elim (int_cases x l) [
      | inl e ↦ inl (inl e)
      | inr ne ↦ elim (Has_cases xs l) [ inl h ↦ inl (inr h) | inr nh ↦ inr (λ h. elim h [ inl e ↦ ne e | inr t ↦ nh t ]) ]
    ]

pub Has-take : (n : ℕ) (xs : List ℤ) (l : ℤ) → Has (take n xs) l → Has xs l
Has-take zero xs l h = absurd h
Has-take (suc n) [] l h = absurd h
Has-take (suc n) (x ∷ xs) l (inl e) = inl e
Has-take (suc n) (x ∷ xs) l (inr h) = inr (Has-take n xs l h)

-- a literal at an index of the list is in the list
pub Has-at : (xs : List ℤ) (k : ℕ) (x : ℤ) → slice_get xs k ≡ Some x → Has xs x
Has-at [] k x e = cc
Has-at (y ∷ xs) zero x e = inl (cc)
Has-at (y ∷ xs) (suc k) x e = inr (Has-at xs k x e)

-- if each literal occurs once, the one at this index isn't among those before it
pub Has-before : (xs : List ℤ) (k : ℕ) (x : ℤ) → EachOnce xs → slice_get xs k ≡ Some x
    → ¬ Has (take k xs) x
Has-before [] k x once e = cc
Has-before (y ∷ xs) zero x once e = λ h. h
Has-before (y ∷ xs) (suc k) x once e =
    λ h. elim h [ inl same ↦ once.0 (subst (Has xs) (sym same) (Has-at xs k x e)) | inr later ↦ Has-before xs k x once.1 e later ]

pub take-next : (xs : List ℤ) (k : ℕ) (x : ℤ) → slice_get xs k ≡ Some x
    → take (suc k) xs ≡ take k xs ++ x ∷ []
take-next [] k x e = cc
take-next (y ∷ xs) zero x e = let same : y ≡ x = cc in ap (λ z. z ∷ []) same
take-next (y ∷ xs) (suc k) x e = ap (λ zs. y ∷ zs) (take-next xs k x e)

-- if a loop reads x at index k, the first k + 1 literals are the first k, followed by x
pub take-read : (xs : List ℤ) (k : ℕ) (x : ℤ) → k < length xs → x ≡ get_or xs k x
    → take (k + 1) xs ≡ take k xs ++ x ∷ []
take-read xs k x lt e = ap (λ n. take n xs) (add-one k) ∙ take-next xs k x (slice_get_read xs (length xs) k x refl lt e)

pub All-Has : (P : ℤ → Type 0) (xs : List ℤ) (l : ℤ) → AllByRecursion P xs → Has xs l → P l
All-Has P [] l all h = absurd h
All-Has P (x ∷ xs) l all (inl e) = subst P e all.0
All-Has P (x ∷ xs) l all (inr h) = All-Has P xs l all.1 h

pub All-from_Has : (P : ℤ → Type 0) (xs : List ℤ) → ((l : ℤ) → Has xs l → P l) → AllByRecursion P xs
All-from_Has P [] f = tt
All-from_Has P (x ∷ xs) f = (f x (inl refl), All-from_Has P xs (λ l h. f l (inr h)))

-- what is true of all literals is true of each that a loop reads by index
pub All-read : (P : ℤ → Type 0) (xs : List ℤ) (k : ℕ) (x : ℤ) → AllByRecursion P xs → k < length xs
    → x ≡ get_or xs k x → P x
All-read P xs k x all lt e = All-Has P xs x all (Has-at xs k x (slice_get_read xs (length xs) k x refl lt e))
