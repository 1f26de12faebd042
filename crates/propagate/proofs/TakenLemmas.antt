-- Lemmas about marks that are set for a list and cleared while a clause is read.
use Rattle.std.proofs.Common.{◌≡◌, ◌⊎◌, ◌↔◌, inl, inr, ℕ, ◌+◌, ◌*◌, ◌<◌, ◌≤◌, ℤ, Bool, true, false, List, [], ◌∷◌, ◌++◌, not, length}
use Rattle.std.proofs.Common.{get_or, set, take, refl, sym, ap, subst, ◌∙◌, arith, None, Some, add-one}
use Rattle.std.specs.Prelude.{slice_get, IsTrue}
use Rattle.std.specs.List.{AllByRecursion}
use Rattle.std.proofs.lemmas.Bool.{false≢true}
use Rattle.std.proofs.lemmas.List.{get_or-set_same, get_or-set_other, take_all}
use Rattle.std.proofs.lemmas.Option.{none-some, slice_get_cases, slice_get_read}
use Rattle.lrup_model.specs.Literal.{IsLiteral, code_of}
use Rattle.lrup_model.specs.lemmas.CodeLemmas.{code_of-injective}
use Rattle.lrup_model.specs.Clause.{Has, EachOnce}
use Rattle.lrup_model.specs.lemmas.ClauseLemmas.{All-Has, All-from_Has, All-read, Has-append_left, Has-at, Has-before, Has-push}
use Rattle.lrup_model.specs.lemmas.ClauseLemmas.{Has-push_cases, Has_cases, int_cases, take-next, take-read}
use Rattle.propagate.specs.internal.Trail.{HaveMarks, IsMarked, AreTaken}
use Rattle.propagate.proofs.MarkLemmas.{code_of-lt}

-- a mark is set
pub marked-set : (marks : List Bool) (x : ℤ) → code_of x < length marks → (l : ℤ)
    → IsMarked (set marks (code_of x) true) l ↔ (IsMarked marks l ⊎ (x ≡ l))
marked-set marks x lt l =
    elim (int_cases l x) [
      | inl e ↦ (
        (λ h. inr (sym e)),
        (λ h. subst (IsMarked (set marks (code_of x) true)) (sym e) (get_or-set_same marks (code_of x) true false lt)),
      )
      | inr ne ↦
          let same = get_or-set_other marks (code_of x) (code_of l) true false (λ e. ne (code_of-injective l x e)) in (
            (λ h. inl (sym same ∙ h)),
            (λ h. elim h [ inl t ↦ same ∙ t | inr e ↦ absurd (ne (sym e)) ]),
          )
    ]

-- the mark of one more literal of a list is set
pub marked-next : (before marks : List Bool) (ls : List ℤ) (x : ℤ) → code_of x < length marks
    → ((l : ℤ) → IsMarked marks l ↔ (IsMarked before l ⊎ Has ls l)) → (l : ℤ)
    → IsMarked (set marks (code_of x) true) l ↔ (IsMarked before l ⊎ Has (ls ++ x ∷ []) l)
marked-next before marks ls x lt are l = (
  (λ h. elim ((marked-set marks x lt l).0 h) [
    | inl t ↦ elim ((are l).0 t) [ inl b ↦ inl b | inr g ↦ inr (Has-append_left ls (x ∷ []) l g) ]
    | inr e ↦ inr (subst (Has (ls ++ x ∷ [])) e (Has-push ls x))
  ]),
  (λ h. (marked-set marks x lt l).1 (elim h [
    | inl b ↦ inl ((are l).1 (inl b))
    | inr g ↦ elim (Has-push_cases ls x l g) [ inl t ↦ inl ((are l).1 (inr t)) | inr e ↦ inr e ]
  ])),
)

-- one more mark is cleared
AreTaken-push : (before marks after : List Bool) (ls : List ℤ) (x : ℤ) → AreTaken before marks ls → IsMarked marks x
    → ((l : ℤ) → IsMarked after l ↔ (IsMarked marks l × (¬ (l ≡ x)))) → AreTaken before after (ls ++ x ∷ [])
AreTaken-push before marks after ls x are here one = record {
  marked = λ l h. elim (Has-push_cases ls x l h) [ inl t ↦ are.marked l t | inr e ↦ subst (IsMarked before) e ((are.left x).0 here).0 ];
  left = λ l. (
    (λ h. let both = (one l).0 h in let was = (are.left l).0 both.0 in
        (was.0, λ g. elim (Has-push_cases ls x l g) [ inl t ↦ was.1 t | inr e ↦ both.1 (sym e) ])),
    (λ h. (one l).1 (
      (are.left l).1 (h.0, λ t. h.1 (Has-append_left ls (x ∷ []) l t)),
      λ e. h.1 (subst (Has (ls ++ x ∷ [])) (sym e) (Has-push ls x)),
    )),
  );
}

-- the mark of the next literal is cleared
pub AreTaken-next : (before marks after : List Bool) (d : List ℤ) (k : ℕ) (x : ℤ) → slice_get d k ≡ Some x
    → AreTaken before marks (take k d) → IsMarked marks x → ((l : ℤ) → IsMarked after l ↔ (IsMarked marks l × (¬ (l ≡ x))))
    → AreTaken before after (take (k + 1) d)
AreTaken-next before marks after d k x at are here one =
    rw (ap (λ i. take i d) (add-one k) ∙ take-next d k x at) (AreTaken-push before marks after (take k d) x are here one)

-- the mark of the second literal of a pair is cleared
pub AreTaken-second : (before marks after : List Bool) (d : List ℤ) (i : ℕ) (x : ℤ) → slice_get d (2 * i + 1) ≡ Some x
    → AreTaken before marks (take (2 * i + 1) d) → IsMarked marks x → ((l : ℤ) → IsMarked after l ↔ (IsMarked marks l × (¬ (l ≡ x))))
    → AreTaken before after (take (2 * (i + 1)) d)
AreTaken-second before marks after d i x at are here one =
    let next : 2 * i + 1 + 1 ≡ 2 * (i + 1) = omega arith in
    subst (λ k. AreTaken before after (take k d)) next (AreTaken-next before marks after d (2 * i + 1) x at are here one)

-- the marks of a last pair that has only one literal are cleared
pub AreTaken-single : (before after : List Bool) (d : List ℤ) (i : ℕ) → slice_get d (2 * i + 1) ≡ None
    → AreTaken before after (take (2 * i + 1) d) → AreTaken before after (take (2 * (i + 1)) d)
AreTaken-single before after d i past are =
    let short : length d ≤ 2 * i + 1 = elim (slice_get_cases d (2 * i + 1)).1 [
      | inl at ↦ absurd (none-some at.0 (sym past ∙ at.2))
      | inr short ↦ short.0
    ] in
    subst (AreTaken before after) (take_all (2 * i + 1) d short ∙ sym (take_all (2 * (i + 1)) d (omega (arith, short)))) are

-- if the next literal isn't marked, it wasn't marked before, either
pub unmarked-next : (before marks : List Bool) (d : List ℤ) (k : ℕ) (x : ℤ) → EachOnce d → slice_get d k ≡ Some x
    → AreTaken before marks (take k d) → (¬ IsMarked marks x) → (l : ℤ) × Has d l × (¬ IsMarked before l)
unmarked-next before marks d k x once at are none =
    (x, Has-at d k x at, λ b. none ((are.left x).1 (b, Has-before d k x once at)))

-- if all the clause's literals were marked, and clearing these marks leaves no literal of the list
-- marked, the clause and the list have the same literals
pub same-literals : (before marks : List Bool) (d ls : List ℤ) → AreTaken before marks d → ((l : ℤ) → Has d l → IsMarked before l
    → Has ls l) → ((l : ℤ) → Has ls l → IsMarked before l) → (¬ ((l : ℤ) × Has ls l × IsMarked marks l)) → (l : ℤ) → Has d l ↔ Has ls l
same-literals before marks d ls are from to none l = (
  (λ h. from l h (are.marked l h)),
  (λ h. elim (Has_cases d l) [ inl t ↦ t | inr missing ↦ absurd (none (l, h, (are.left l).1 (to l h, missing))) ]),
)

-- if the next literal is marked, some literal of the list is
pub marked-read : (marks : List Bool) (ls : List ℤ) (k place : ℕ) (x : ℤ) → k < length ls → x ≡ get_or ls k x → place ≡ code_of x
    → get_or marks place false ≡ true → (l : ℤ) × Has ls l × IsMarked marks l
marked-read marks ls k place x lt at e found =
    (x, Has-at ls k x (slice_get_read ls (length ls) k x refl lt at), ap (λ j. get_or marks j false) (sym e) ∙ found)

-- if the next literal isn't marked either, no literal so far is
pub unmarked-read : (marks : List Bool) (ls : List ℤ) (k place : ℕ) (x : ℤ) → k < length ls → x ≡ get_or ls k x → place ≡ code_of x
    → get_or marks place false ≡ false → ((l : ℤ) → Has (take k ls) l → ¬ IsMarked marks l) → (l : ℤ) → Has (take (k + 1) ls) l
    → ¬ IsMarked marks l
unmarked-read marks ls k place x lt at e missing none l h marked =
    elim (Has-push_cases (take k ls) x l (subst (λ m. Has m l) (take-read ls k x lt at) h)) [
      | inl t ↦ none l t marked
      | inr same ↦ false≢true (sym missing ∙ ap (λ j. get_or marks j false) e ∙ subst (IsMarked marks) (sym same) marked)
    ]

-- the mark of the next literal of the list is set
pub marked-read_next : (before marks : List Bool) (ls : List ℤ) (k place : ℕ) (x : ℤ) → k < length ls
    → x ≡ get_or ls k x → place ≡ code_of x → HaveMarks before ls → length marks ≡ length before
    → ((l : ℤ) → IsMarked marks l ↔ (IsMarked before l ⊎ Has (take k ls) l)) → (l : ℤ)
    → IsMarked (set marks place true) l ↔ (IsMarked before l ⊎ Has (take (k + 1) ls) l)
marked-read_next before marks ls k place x lt at e have count are l =
    let inside : code_of x < length marks = rw count (All-read (λ y. code_of y < length before) ls k x have lt at) in
    rw (e, take-read ls k x lt at) (marked-next before marks (take k ls) x inside are l)

-- literals over the variables have marks
pub HaveMarks-literals : (vars : ℕ) (marks : List Bool) (ls : List ℤ) → length marks ≡ 2 * vars + 2 → AllByRecursion (IsLiteral vars) ls
    → HaveMarks marks ls
HaveMarks-literals vars marks ls count all =
    All-from_Has (λ l. code_of l < length marks) ls (λ l h. rw count (code_of-lt vars l (All-Has (IsLiteral vars) ls l all h)))

-- the clause and the list have the same literals exactly if no literal of the list is still marked
pub same-known : (before first marks : List Bool) (d ls : List ℤ) (any : Bool)
    → ((l : ℤ) → IsMarked first l ↔ (IsMarked before l ⊎ Has ls l)) → ((l : ℤ) → Has d l → ¬ IsMarked before l) → AreTaken first marks d
    → (IsTrue any ↔ ((l : ℤ) × Has ls l × IsMarked marks l)) → IsTrue (not any) ↔ ((l : ℤ) → Has d l ↔ Has ls l)
same-known before first marks d ls true set clean are asked = (
  (λ h. absurd (false≢true h)),
  (λ same. let found = asked.0 refl in absurd (((are.left found.0).0 found.2).1 ((same found.0).1 found.1))),
)
same-known before first marks d ls false set clean are asked = (
  (λ h. same-literals first marks d ls are
      (λ l here m. elim ((set l).0 m) [ inl b ↦ absurd (clean l here b) | inr g ↦ g ])
      (λ l g. (set l).1 (inr g))
      (λ found. false≢true (asked.1 found))),
  (λ same. refl),
)

-- if a literal of the clause isn't marked, the clause and the list have different literals
pub other-known : (before first : List Bool) (d ls : List ℤ) → ((l : ℤ) → IsMarked first l ↔ (IsMarked before l ⊎ Has ls l))
    → ((l : ℤ) × Has d l × (¬ IsMarked first l)) → IsTrue false ↔ ((l : ℤ) → Has d l ↔ Has ls l)
other-known before first d ls set missing = (
  (λ h. absurd (false≢true h)),
  (λ same. absurd (missing.2 ((set missing.0).1 (inr ((same missing.0).0 missing.1))))),
)
