-- Lemmas about marks.
use Rattle.std.proofs.Common.{◌≡◌, ◌≢◌, ◌⊎◌, ◌↔◌, inl, inr, ℕ, zero, suc, ◌+◌, ◌*◌, ◌<◌, ◌≤◌, ℤ, pos, negsuc, neg_ℤ, nat_abs, Bool, true}
use Rattle.std.proofs.Common.{false, List, [], ◌∷◌, ◌++◌, length, get_or, set, take, map, eqb, refl, sym, ap, subst, ◌∙◌, arith}
use Rattle.std.proofs.Common.{length-append}
use Rattle.std.specs.Prelude.{slice_get, Some}
use Rattle.std.specs.List.{AllByRecursion, IsDistinct, list_any}
use Rattle.std.proofs.Math.IntN.{neg_ℤ-neg_ℤ}
use Rattle.std.proofs.lemmas.Bool.{ne_eqb, eqb-true, or_cases, false≢true, false_from_ne_true}
use Rattle.std.proofs.lemmas.List.{length-set, length-map, get_or-set_same, get_or-set_other}
use Rattle.std.proofs.lemmas.Map.Steps.{length-le_from_distinct_below}
use Rattle.lrup_model.specs.Literal.{IsLiteral, code_of}
use Rattle.lrup_model.specs.lemmas.CodeLemmas.{code_of-injective, IsCode-code_of}
use Rattle.lrup_model.specs.Clause.{Has, IsClause}
use Rattle.lrup_model.specs.CallerView.{CallerView, ClipValue, IsKnown, AllFollow, clip_clause}
use Rattle.lrup_model.specs.lemmas.PassLemmas.{known_follows}
use Rattle.propagate.specs.internal.Trail.{AreApart, AreMarks}
use Rattle.lrup_model.specs.lemmas.ClauseLemmas.{Has-append_left, Has-at, Has-push, Has-push_cases, All-Has, int_cases, take-read}
use Rattle.lrup_model.specs.lemmas.ListLemmas.{All-push}

pub IsLiteral-neg : (vars : ℕ) (l : ℤ) → IsLiteral vars l → IsLiteral vars (neg_ℤ l)
IsLiteral-neg vars (pos zero) h = h
IsLiteral-neg vars (pos (suc n)) h = h
IsLiteral-neg vars (negsuc n) h = h

pub ne_neg_ℤ : (vars : ℕ) (l : ℤ) → IsLiteral vars l → l ≢ neg_ℤ l
ne_neg_ℤ vars (pos zero) h e = absurd (omega (arith, h.0))
ne_neg_ℤ vars (pos (suc n)) h e = cc
ne_neg_ℤ vars (negsuc n) h e = cc

-- literals of the same variable are equal, or complements of each other
same_variable : (a b : ℤ) → nat_abs a ≡ nat_abs b → (a ≡ b) ⊎ (neg_ℤ a ≡ b)
same_variable (pos m) (pos n) e = inl (ap pos e)
same_variable (pos zero) (negsuc n) e = absurd (omega (arith, e))
same_variable (pos (suc m)) (negsuc n) e = let s : m ≡ n = omega (arith, e) in inr (ap negsuc s)
same_variable (negsuc m) (pos n) e = inr (ap pos e)
same_variable (negsuc m) (negsuc n) e = let s : m ≡ n = omega (arith, e) in inl (ap negsuc s)

pub code_of-lt : (vars : ℕ) (l : ℤ) → IsLiteral vars l → code_of l < 2 * vars + 2
code_of-lt vars l h = let code = IsCode-code_of vars l h in omega (arith, code.1)

AreApart-push : (ls : List ℤ) (x : ℤ) → AreApart ls → (¬ Has ls x) → (¬ Has ls (neg_ℤ x)) → AreApart (ls ++ x ∷ [])
AreApart-push [] x apart new new_neg = ((λ h. h), (λ h. h), tt)
AreApart-push (y ∷ ls) x apart new new_neg = (
  (λ h. elim (Has-push_cases ls x y h) [ inl t ↦ apart.0 t | inr e ↦ new (inl (sym e)) ]),
  (λ h. elim (Has-push_cases ls x (neg_ℤ y) h) [ inl t ↦ apart.1 t | inr e ↦ new_neg (inl (sym (ap neg_ℤ e ∙ neg_ℤ-neg_ℤ y))) ]),
  AreApart-push ls x apart.2 (λ h. new (inr h)) (λ h. new_neg (inr h)),
)

-- the variable of a new literal isn't a variable of the list
differs : (x : ℤ) (ls : List ℤ) → (¬ Has ls x) → (¬ Has ls (neg_ℤ x)) → AllByRecursion (λ v. eqb (nat_abs x) v ≡ false) (map nat_abs ls)
differs x [] new new_neg = tt
differs x (y ∷ ls) new new_neg = (
  ne_eqb (nat_abs x) (nat_abs y) (λ e. elim (same_variable x y e) [ inl s ↦ new (inl (sym s)) | inr s ↦ new_neg (inl (sym s)) ]),
  differs x ls (λ h. new (inr h)) (λ h. new_neg (inr h)),
)

IsDistinct-variables : (ls : List ℤ) → AreApart ls → IsDistinct eqb (map nat_abs ls)
unfolding IsDistinct
IsDistinct-variables [] apart = tt
IsDistinct-variables (x ∷ ls) apart = (differs x ls apart.0 apart.1, IsDistinct-variables ls apart.2)

variable-lt : (vars : ℕ) (ls : List ℤ) (q : ℕ) → AllByRecursion (IsLiteral vars) ls
    → list_any (eqb q) (map nat_abs ls) ≡ true → q < vars + 1
variable-lt vars [] q all h = absurd (false≢true h)
variable-lt vars (x ∷ ls) q all h =
    elim (or_cases (eqb q (nat_abs x)) (list_any (eqb q) (map nat_abs ls)) h) [
      | inl e ↦ omega (arith, eqb-true q (nat_abs x) e, all.0.1)
      | inr t ↦ variable-lt vars ls q all.1 t
    ]

-- a list with no variable twice has at most one literal more than there are variables
length-le_variables : (vars : ℕ) (ls : List ℤ) → AreApart ls → AllByRecursion (IsLiteral vars) ls → length ls ≤ vars + 1
length-le_variables vars ls apart all =
    subst (λ n. n ≤ vars + 1) (length-map ls nat_abs)
    (length-le_from_distinct_below (map nat_abs ls) (vars + 1) (IsDistinct-variables ls apart) (λ q h. variable-lt vars ls q all h))

-- there is room for one more literal, if it is neither false nor true
pub AreMarks-room : (vars : ℕ) (marks : List Bool) (ls : List ℤ) (capacity : ℕ) (x : ℤ) → AreMarks vars marks ls capacity → IsLiteral vars x
    → (¬ Has ls x) → (¬ Has ls (neg_ℤ x)) → length ls < capacity
AreMarks-room vars marks ls capacity x are literal new new_neg =
    let most = length-le_variables vars (ls ++ x ∷ []) (AreApart-push ls x are.apart new new_neg)
    (All-push (IsLiteral vars) ls x are.within literal) in
    let one_more = length-append ls (x ∷ []) in
    omega (arith, most, one_more, are.room)

pub AreMarks-add : (vars : ℕ) (marks : List Bool) (ls : List ℤ) (capacity : ℕ) (x : ℤ) → AreMarks vars marks ls capacity → IsLiteral vars x
    → (¬ Has ls x) → (¬ Has ls (neg_ℤ x)) → AreMarks vars (set marks (code_of x) true) (ls ++ x ∷ []) capacity
AreMarks-add vars marks ls capacity x are literal new new_neg = record {
  count = length-set marks (code_of x) true ∙ are.count;
  room = are.room;
  within = All-push (IsLiteral vars) ls x are.within literal;
  apart = AreApart-push ls x are.apart new new_neg;
  marked = λ l is. elim (int_cases l x) [ inl e ↦ here l e | inr ne ↦ (to l is ne, from l is ne) ];
}
  where
    inside : code_of x < length marks
    inside = let below = code_of-lt vars x literal in subst (λ n. code_of x < n) (sym are.count) below

    here : (l : ℤ) → l ≡ x → (get_or (set marks (code_of x) true) (code_of l) false ≡ true) ↔ Has (ls ++ x ∷ []) l
    here l e = (
      (λ h. subst (Has (ls ++ x ∷ [])) (sym e) (Has-push ls x)),
      (λ h. ap (λ k. get_or (set marks (code_of x) true) (code_of k) false) e ∙ get_or-set_same marks (code_of x) true false inside),
    )

    same : (l : ℤ) → l ≢ x → get_or (set marks (code_of x) true) (code_of l) false ≡ get_or marks (code_of l) false
    same l ne = get_or-set_other marks (code_of x) (code_of l) true false (λ e. ne (code_of-injective l x e))

    to : (l : ℤ) → IsLiteral vars l → l ≢ x → get_or (set marks (code_of x) true) (code_of l) false ≡ true → Has (ls ++ x ∷ []) l
    to l is ne h = Has-append_left ls (x ∷ []) l ((are.marked l is).0 (sym (same l ne) ∙ h))

    from : (l : ℤ) → IsLiteral vars l → l ≢ x → Has (ls ++ x ∷ []) l → get_or (set marks (code_of x) true) (code_of l) false ≡ true
    from l is ne h = elim (Has-push_cases ls x l h) [ inl t ↦ same l ne ∙ (are.marked l is).1 t | inr e ↦ absurd (ne (sym e)) ]

cleared-at : (marks : List Bool) (i : ℕ) → get_or (set marks i false) i false ≡ false
cleared-at [] i = refl
cleared-at (x ∷ marks) zero = refl
cleared-at (x ∷ marks) (suc i) = cleared-at marks i

-- if a mark is still set after some mark has been cleared, it was set before, too
pub marked_before : (marks : List Bool) (i k : ℕ) → get_or (set marks i false) k false ≡ true → get_or marks k false ≡ true
marked_before [] i k h = h
marked_before (x ∷ marks) zero zero h = absurd (false≢true h)
marked_before (x ∷ marks) zero (suc k) h = h
marked_before (x ∷ marks) (suc i) zero h = h
marked_before (x ∷ marks) (suc i) (suc k) h = marked_before marks i k h

-- the mark of one more literal is cleared
pub cleared-next : (marks : List Bool) (ls : List ℤ) (k view : ℕ) (x : ℤ) → k < length ls → x ≡ get_or ls k x → view ≡ code_of x
    → ((l : ℤ) → Has (take k ls) l → get_or marks (code_of l) false ≡ false) → (l : ℤ) → Has (take (k + 1) ls) l
    → get_or (set marks view false) (code_of l) false ≡ false
cleared-next marks ls k view x lt at e cleared l h = elim (Has-push_cases (take k ls) x l (rw (take-read ls k x lt at) at h)) [
  | inl t ↦ false_from_ne_true (get_or (set marks view false) (code_of l) false)
      (λ set. false≢true (sym (cleared l t) ∙ marked_before marks view (code_of l) set))
  | inr same ↦ ap (λ j. get_or (set marks view false) j false) (ap code_of (sym same) ∙ sym e) ∙ cleared-at marks view
]

-- a literal of a clause is still a literal over more variables
pub IsLiteral-read : (vars more : ℕ) (d : List ℤ) (l : ℤ) → IsClause vars d → vars ≤ more → Has d l → IsLiteral more l
IsLiteral-read vars more d l clause le h =
    let is : IsLiteral vars l = All-Has (IsLiteral vars) d l clause.literals h in (is.0, omega (arith, is.1))

-- a literal of a known clause is a literal over the formula's variables, and so over more variables
pub IsLiteral-known : (vars : ℕ) (view : CallerView) (clip : ClipValue) (k : ℕ) (l : ℤ) → AllFollow view → IsKnown view clip
    → view.caller.formula.vars ≤ vars → slice_get (clip_clause view clip) k ≡ Some l → IsLiteral vars l
IsLiteral-known vars view clip k l follow known le at =
    IsLiteral-read view.caller.formula.vars vars (clip_clause view clip) l (known_follows view clip follow known).0 le
    (Has-at (clip_clause view clip) k l at)
