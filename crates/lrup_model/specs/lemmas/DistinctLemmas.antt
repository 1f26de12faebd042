-- Lemmas about the list of distinct literals.
use Rattle.std.proofs.Common.{◌≡◌, ◌≢◌, ◌⊎◌, inl, inr, ℕ, ◌<◌, ◌≤◌, ℤ, neg_ℤ, arith, not, List, [], ◌∷◌, ◌++◌, length, get_or, take, refl, sym, ap, subst, ◌∙◌}
use Rattle.std.specs.List.{AllByRecursion, filter}
use Rattle.std.specs.Ordering.{int_eq}
use Rattle.std.proofs.lemmas.Bool.Decides.{Decides-int_eq}
use Rattle.std.proofs.lemmas.Bool.{cond-true, cond-false, false_from_ne_true}
use Rattle.std.proofs.lemmas.List.Elements.{filter-append}
use Rattle.std.proofs.lemmas.List.Filters.{length-filter_both}
use Rattle.std.proofs.lemmas.List.{append-nil, take_all}
use Rattle.std.proofs.lemmas.Option.{slice_get_read}
use Rattle.std.proofs.Math.IntN.{neg_ℤ-neg_ℤ}
use Rattle.lrup_model.specs.Clause.{Has, EachOnce, IsClause, IsTautology}
use Rattle.lrup_model.specs.Literal.{IsLiteral}
use Rattle.lrup_model.specs.Distinct.{distinct}
use Rattle.lrup_model.specs.lemmas.ClauseLemmas.{int_cases, Has_cases, Has-push_cases, Has-at, Has-take, All-Has, All-from_Has}

-- all literals except this one
abbrev without : ℤ → List ℤ → List ℤ
without x ls = filter (λ y. not (int_eq y x)) ls

without-same : (x y : ℤ) (ls : List ℤ) → y ≡ x → without x (y ∷ ls) ≡ without x ls
without-same x y ls e = cond-false (not (int_eq y x)) (y ∷ without x ls) (without x ls) (ap not ((Decides-int_eq y x).1 e))

without-other : (x y : ℤ) (ls : List ℤ) → y ≢ x → without x (y ∷ ls) ≡ y ∷ without x ls
without-other x y ls ne =
    cond-true (not (int_eq y x)) (y ∷ without x ls) (without x ls) (ap not (false_from_ne_true (int_eq y x) (λ t. ne ((Decides-int_eq y x).0 t))))

Has-without : (x : ℤ) (ls : List ℤ) (l : ℤ) → Has (without x ls) l → Has ls l × (l ≢ x)
Has-without x [] l h = absurd h
Has-without x (y ∷ ls) l h =
    elim (int_cases y x) [
      | inl e ↦ let r = Has-without x ls l (subst (λ m. Has m l) (without-same x y ls e) h) in (inr r.0, r.1)
      | inr ne ↦
          let g : (y ≡ l) ⊎ Has (without x ls) l = subst (λ m. Has m l) (without-other x y ls ne) h in
          elim g [
            | inl e ↦ (inl e, λ same. ne (e ∙ same))
            | inr t ↦ let r = Has-without x ls l t in (inr r.0, r.1)
          ]
    ]

Has-without_from : (x : ℤ) (ls : List ℤ) (l : ℤ) → Has ls l → l ≢ x → Has (without x ls) l
Has-without_from x [] l h ne = h
Has-without_from x (y ∷ ls) l (inl e) ne = subst (λ m. Has m l) (sym (without-other x y ls (λ same. ne (sym e ∙ same)))) (inl e)
Has-without_from x (y ∷ ls) l (inr h) ne =
    elim (int_cases y x) [
      | inl e ↦ subst (λ m. Has m l) (sym (without-same x y ls e)) (Has-without_from x ls l h ne)
      | inr other ↦ subst (λ m. Has m l) (sym (without-other x y ls other)) (inr (Has-without_from x ls l h ne))
    ]

EachOnce-without : (x : ℤ) (ls : List ℤ) → EachOnce ls → EachOnce (without x ls)
EachOnce-without x [] once = tt
EachOnce-without x (y ∷ ls) once =
    elim (int_cases y x) [
      | inl e ↦ subst EachOnce (sym (without-same x y ls e)) (EachOnce-without x ls once.1)
      | inr ne ↦ subst EachOnce (sym (without-other x y ls ne)) ((λ h. once.0 (Has-without x ls y h).0), EachOnce-without x ls once.1)
    ]

pub Has-from_distinct : (ls : List ℤ) (l : ℤ) → Has (distinct ls) l → Has ls l
Has-from_distinct [] l h = h
Has-from_distinct (x ∷ ls) l (inl e) = inl e
Has-from_distinct (x ∷ ls) l (inr h) = inr (Has-from_distinct ls l (Has-without x (distinct ls) l h).0)

pub Has-distinct : (ls : List ℤ) (l : ℤ) → Has ls l → Has (distinct ls) l
Has-distinct [] l h = h
Has-distinct (x ∷ ls) l (inl e) = inl e
Has-distinct (x ∷ ls) l (inr h) =
    elim (int_cases l x) [ inl e ↦ inl (sym e) | inr ne ↦ inr (Has-without_from x (distinct ls) l (Has-distinct ls l h) ne) ]

EachOnce-distinct : (ls : List ℤ) → EachOnce (distinct ls)
EachOnce-distinct [] = tt
EachOnce-distinct (x ∷ ls) = ((λ h. (Has-without x (distinct ls) x h).1 refl), EachOnce-without x (distinct ls) (EachOnce-distinct ls))

pub IsClause-distinct : (vars : ℕ) (ls : List ℤ) → AllByRecursion (IsLiteral vars) ls
    → IsClause vars (distinct ls)
IsClause-distinct vars ls all = record {
  literals = All-from_Has (IsLiteral vars) (distinct ls) (λ l h. All-Has (IsLiteral vars) ls l all (Has-from_distinct ls l h));
  each_once = EachOnce-distinct ls;
}

pub IsTautology-distinct : (ls : List ℤ) → IsTautology (distinct ls) → IsTautology ls
IsTautology-distinct ls t = (t.0, Has-from_distinct ls t.0 t.1, Has-from_distinct ls (neg_ℤ t.0) t.2)

pub IsTautology-in_distinct : (ls : List ℤ) → IsTautology ls → IsTautology (distinct ls)
IsTautology-in_distinct ls t = (t.0, Has-distinct ls t.0 t.1, Has-distinct ls (neg_ℤ t.0) t.2)

-- the list of distinct literals isn't longer than the whole list
pub length-distinct : (ls : List ℤ) → length (distinct ls) ≤ length ls
length-distinct [] = omega arith
length-distinct (x ∷ ls) =
    omega (arith, length-distinct ls, length-filter_both (λ y. not (int_eq y x)) (λ y. not (not (int_eq y x))) (λ y. refl) (distinct ls))

pub distinct-push_other : (ls : List ℤ) (x : ℤ) → (¬ Has ls x)
    → distinct (ls ++ x ∷ []) ≡ distinct ls ++ x ∷ []
distinct-push_other [] x missing = refl
distinct-push_other (y ∷ ls) x missing =
    let rest = distinct-push_other ls x (λ h. missing (inr h)) in
    let split : without y (distinct ls ++ x ∷ []) ≡ without y (distinct ls) ++ without y (x ∷ []) = filter-append (λ z. not (int_eq z y)) (distinct ls) (x ∷ []) in
    let kept : without y (x ∷ []) ≡ x ∷ [] = without-other y x [] (λ e. missing (inl (sym e))) in
    ap (λ m. y ∷ m) (ap (without y) rest ∙ split ∙ ap (λ m. without y (distinct ls) ++ m) kept)

-- appending a literal that the list already has doesn't change the distinct literals
pub distinct-push_same : (ls : List ℤ) (x : ℤ) → Has ls x → distinct (ls ++ x ∷ []) ≡ distinct ls
distinct-push_same [] x h = absurd h
distinct-push_same (y ∷ ls) x h =
    elim (Has_cases ls x) [
      | inl there ↦ ap (λ m. y ∷ without y m) (distinct-push_same ls x there)
      | inr missing ↦ elim h [ inl e ↦ dropped y ls x e missing | inr there ↦ absurd (missing there) ]
    ]
  where
    dropped : (y : ℤ) (ls : List ℤ) (x : ℤ) → y ≡ x → (¬ Has ls x) → distinct ((y ∷ ls) ++ x ∷ []) ≡ distinct (y ∷ ls)
    dropped y ls x e missing =
        let rest = distinct-push_other ls x missing in
        let split : without y (distinct ls ++ x ∷ []) ≡ without y (distinct ls) ++ without y (x ∷ []) = filter-append (λ z. not (int_eq z y)) (distinct ls) (x ∷ []) in
        let gone : without y (x ∷ []) ≡ [] = without-same y x [] (sym e) in
        ap (λ m. y ∷ m) (ap (without y) rest ∙ split ∙ ap (λ m. without y (distinct ls) ++ m) gone ∙ append-nil (without y (distinct ls)))

-- n has the distinct literals of ls, and ls has no literal together with its complement
pub record IsTaken (ls n : List ℤ) : Type 0 where
  pub same : n ≡ distinct ls
  pub consistent : ¬ IsTautology ls

pub IsTaken-nil : IsTaken [] []
IsTaken-nil = record { same = refl; consistent = λ t. absurd t.1 }

pub Has-taken : (ls n : List ℤ) (l : ℤ) → IsTaken ls n → Has ls l → Has n l
Has-taken ls n l t h = subst (λ m. Has m l) (sym t.same) (Has-distinct ls l h)

pub Has-from_taken : (ls n : List ℤ) (l : ℤ) → IsTaken ls n → Has n l → Has ls l
Has-from_taken ls n l t h = Has-from_distinct ls l (subst (λ m. Has m l) t.same h)

consistent-push : (ls : List ℤ) (x : ℤ) → (¬ IsTautology ls) → (¬ Has ls (neg_ℤ x))
    → (¬ (x ≡ neg_ℤ x)) → ¬ IsTautology (ls ++ x ∷ [])
consistent-push ls x consistent not_neg not_zero t =
    elim (Has-push_cases ls x t.0 t.1) [
      | inl here ↦ elim (Has-push_cases ls x (neg_ℤ t.0) t.2) [
        | inl there ↦ consistent (t.0, here, there)
        | inr e ↦ not_neg (subst (Has ls) (sym (ap neg_ℤ e ∙ neg_ℤ-neg_ℤ t.0)) here)
      ]
      | inr e ↦ elim (Has-push_cases ls x (neg_ℤ t.0) t.2) [
        | inl there ↦ not_neg (subst (λ l. Has ls (neg_ℤ l)) (sym e) there)
        | inr s ↦ not_zero (s ∙ ap neg_ℤ (sym e))
      ]
    ]

-- if neither a literal nor its complement was taken, the literal may be added to both lists
pub IsTaken-push : (ls n : List ℤ) (x : ℤ) → IsTaken ls n → (¬ Has n (neg_ℤ x)) → (¬ Has n x)
    → (¬ (x ≡ neg_ℤ x)) → IsTaken (ls ++ x ∷ []) (n ++ x ∷ [])
IsTaken-push ls n x t not_neg missing not_zero = record {
  same = ap (λ m. m ++ x ∷ []) t.same ∙ sym (distinct-push_other ls x (λ h. missing (Has-taken ls n x t h)));
  consistent = consistent-push ls x t.consistent (λ h. not_neg (Has-taken ls n (neg_ℤ x) t h)) not_zero;
}

pub IsTaken-push_same : (ls n : List ℤ) (x : ℤ) → IsTaken ls n → (¬ Has n (neg_ℤ x)) → Has n x
    → (¬ (x ≡ neg_ℤ x)) → IsTaken (ls ++ x ∷ []) n
IsTaken-push_same ls n x t not_neg there not_zero = record {
  same = t.same ∙ sym (distinct-push_same ls x (Has-from_taken ls n x t there));
  consistent = consistent-push ls x t.consistent (λ h. not_neg (Has-taken ls n (neg_ℤ x) t h)) not_zero;
}

-- if the complement of the next literal was taken, the list has a literal and its complement
pub IsTautology-next : (ls n : List ℤ) (k : ℕ) (x : ℤ) → IsTaken (take k ls) n → k < length ls
    → x ≡ get_or ls k x → Has n (neg_ℤ x) → IsTautology ls
IsTautology-next ls n k x t lt at h =
    (x, Has-at ls k x (slice_get_read ls (length ls) k x refl lt at), Has-take k ls (neg_ℤ x) (Has-from_taken (take k ls) n (neg_ℤ x) t h))

-- if n, of length `count`, is the list of distinct literals, so are its first `count` elements
pub all_taken : (ls n : List ℤ) (count : ℕ) → count ≡ length n → n ≡ distinct ls
    → take count n ≡ distinct ls
all_taken ls n count len same = let le : length n ≤ count = omega arith in take_all count n le ∙ same
