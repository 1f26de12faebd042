-- Lemmas about which literals of a clause aren't false, as the clause is read.
use Rattle.std.proofs.Common.{arith, ◌≡◌, ◌≤◌, ◌⊎◌, inl, inr, ℕ, ◌+◌, ◌*◌, length, Option, None, refl, ℤ, neg_ℤ, List, [], ◌∷◌, ◌++◌, take}
use Rattle.std.proofs.Common.{drop, Some, sym, ap, subst, ◌∙◌, add-one}
use Rattle.std.specs.Prelude.{slice_get}
use Rattle.std.proofs.lemmas.List.{take-append-drop, take_all, take-take}
use Rattle.std.proofs.lemmas.Option.{none-some, slice_get_cases}
use Rattle.lrup_model.specs.Clause.{Clause, Has, EachOnce}
use Rattle.lrup_model.specs.Propagation.{IsConflict, IsUnit}
use Rattle.propagate.specs.internal.ClauseStatus.{HasStatus}
use Rattle.propagate.specs.declared.marks.ClauseStatus.{ClauseStatus}
use Rattle.propagate.specs.declared.marks.ClauseStatus.TheVariants.{Nothing, One, More}
use Rattle.lrup_model.specs.lemmas.ClauseLemmas.{Has-append_left, Has-push, Has-push_cases, Has-take, Has-at, Has-before, take-next}

-- if a clause is neither unit nor a conflict, it is still neither with more literals
pub HasStatus-more : (n : List ℤ) (d e : Clause) → HasStatus n d More → HasStatus n (d ++ e) More
HasStatus-more n d e more = (
  (λ conflict. more.0 (λ l h. conflict l (Has-append_left d e l h))),
  (λ l unit.
      let outside : ¬ Has d l = λ h. more.1 l (record {
        here = h;
        not_false = unit.not_false;
        not_true = unit.not_true;
        others = λ k g. unit.others k (Has-append_left d e k g);
      }) in
      more.0 (λ k h. elim (unit.others k (Has-append_left d e k h)) [
        | inl same ↦ absurd (outside (subst (Has d) same h))
        | inr is_false ↦ is_false
      ])),
)

-- a false literal doesn't change the status
pub HasStatus-false : (n : List ℤ) (d : Clause) (status : ClauseStatus) (x : ℤ) → HasStatus n d status → Has n x
    → HasStatus n (d ++ x ∷ []) status
HasStatus-false n d Nothing x conflict is_false = λ l h. elim (Has-push_cases d x l h) [
  | inl t ↦ conflict l t
  | inr same ↦ subst (Has n) same is_false
]
HasStatus-false n d (One l) x unit is_false = record {
  here = Has-append_left d (x ∷ []) l unit.here;
  not_false = unit.not_false;
  not_true = unit.not_true;
  others = λ k h. elim (Has-push_cases d x k h) [ inl t ↦ unit.others k t | inr same ↦ inr (subst (Has n) same is_false) ];
}
HasStatus-false n d More x more is_false = HasStatus-more n d (x ∷ []) more

-- with a true literal, the clause is neither unit nor a conflict
pub HasStatus-true : (n : List ℤ) (d : Clause) (x : ℤ) → (¬ Has n x) → Has n (neg_ℤ x) → HasStatus n (d ++ x ∷ []) More
HasStatus-true n d x not_false is_true = (
  (λ conflict. not_false (conflict x (Has-push d x))),
  (λ l unit. elim (unit.others x (Has-push d x)) [
    | inl same ↦ unit.not_true (subst (λ k. Has n (neg_ℤ k)) same is_true)
    | inr is_false ↦ not_false is_false
  ]),
)

-- after only false literals, a literal that is neither false nor true makes the clause unit
pub HasStatus-one : (n : List ℤ) (d : Clause) (x : ℤ) → IsConflict n d → (¬ Has n x) → (¬ Has n (neg_ℤ x)) → IsUnit n (d ++ x ∷ []) x
HasStatus-one n d x conflict not_false not_true = record {
  here = Has-push d x;
  not_false = not_false;
  not_true = not_true;
  others = λ k h. elim (Has-push_cases d x k h) [ inl t ↦ inr (conflict k t) | inr same ↦ inl (sym same) ];
}

-- with a second literal that isn't false, the clause is neither unit nor a conflict
pub HasStatus-two : (n : List ℤ) (d : Clause) (l x : ℤ) → IsUnit n d l → (¬ Has d x) → (¬ Has n x) → HasStatus n (d ++ x ∷ []) More
HasStatus-two n d l x unit other not_false = (
  (λ conflict. not_false (conflict x (Has-push d x))),
  (λ k both.
      let first : x ≡ k = elim (both.others x (Has-push d x)) [ inl same ↦ same | inr is_false ↦ absurd (not_false is_false) ] in
      elim (both.others l (Has-append_left d (x ∷ []) l unit.here)) [
        | inl same ↦ other (subst (Has d) (same ∙ sym first) unit.here)
        | inr is_false ↦ unit.not_false is_false
      ]),
)

-- the status after the next literal of a clause that has each literal once
pub HasStatus-next : (n : List ℤ) (d : Clause) (k : ℕ) (x : ℤ) (status after : ClauseStatus) → EachOnce d → slice_get d k ≡ Some x
    → HasStatus n (take k d) status → ((e : Clause) → HasStatus n e status → (¬ Has e x) → HasStatus n (e ++ x ∷ []) after)
    → HasStatus n (take (k + 1) d) after
HasStatus-next n d k x status after once at before step =
    rw (ap (λ i. take i d) (add-one k) ∙ take-next d k x at) (step (take k d) before (Has-before d k x once at))

-- if the first literals of a clause make it neither unit nor a conflict, the whole clause is
-- neither
pub HasStatus-whole : (n : List ℤ) (d : Clause) (k : ℕ) → HasStatus n (take k d) More → HasStatus n d More
HasStatus-whole n d k more = subst (λ e. HasStatus n e More) (take-append-drop k d) (HasStatus-more n (take k d) (drop k d) more)

-- the status after the second literal of a pair
pub HasStatus-second : (n : List ℤ) (d : Clause) (i : ℕ) (x : ℤ) (status after : ClauseStatus) → EachOnce d
    → slice_get d (2 * i + 1) ≡ Some x
    → HasStatus n (take (2 * i + 1) d) status → ((e : Clause) → HasStatus n e status → (¬ Has e x) → HasStatus n (e ++ x ∷ []) after)
    → HasStatus n (take (2 * (i + 1)) d) after
HasStatus-second n d i x status after once at before step =
    let next : 2 * i + 1 + 1 ≡ 2 * (i + 1) = omega arith in
    subst (λ k. HasStatus n (take k d) after) next (HasStatus-next n d (2 * i + 1) x status after once at before step)

-- a list that has nothing at an index isn't longer than that index
ends-at : (d : List ℤ) (k : ℕ) → slice_get d k ≡ None → length d ≤ k
ends-at d k past = elim (slice_get_cases d k).1 [ inl at ↦ absurd (none-some at.0 (sym past ∙ at.2)) | inr short ↦ short.0 ]

-- the status after a last pair that has only one literal
pub HasStatus-single : (n : List ℤ) (d : Clause) (i : ℕ) (status : ClauseStatus) → slice_get d (2 * i + 1) ≡ None
    → HasStatus n (take (2 * i + 1) d) status
    → HasStatus n (take (2 * (i + 1)) d) status
HasStatus-single n d i status past before =
    let short = ends-at d (2 * i + 1) past in
    subst (λ e. HasStatus n e status) (take_all (2 * i + 1) d short ∙ sym (take_all (2 * (i + 1)) d (omega (arith, short)))) before

-- one more false literal doesn't change the status
HasStatus-passed : (n : List ℤ) (d : Clause) (k : ℕ) (x : ℤ) (status : ClauseStatus) → slice_get d k ≡ Some x → Has n x
    → HasStatus n (take k d) status
    → HasStatus n (take (k + 1) d) status
HasStatus-passed n d k x status at is_false before =
    rw (ap (λ i. take i d) (add-one k) ∙ take-next d k x at) (HasStatus-false n (take k d) status x before is_false)

-- a pair of false literals, or one false literal, doesn't change the status
pub HasStatus-pair : (n : List ℤ) (d : Clause) (i : ℕ) (x : ℤ) (second : Option ℤ) (status : ClauseStatus) → slice_get d (2 * i) ≡ Some x
    → slice_get d (2 * i + 1) ≡ second → Has n x × ((l : ℤ) → second ≡ Some l → Has n l) → HasStatus n (take (2 * i) d) status
    → HasStatus n (take (2 * (i + 1)) d) status
HasStatus-pair n d i x None status at at' false_too before =
    HasStatus-single n d i status at' (HasStatus-passed n d (2 * i) x status at false_too.0 before)
HasStatus-pair n d i x (Some y) status at at' false_too before =
    let next : 2 * i + 1 + 1 ≡ 2 * (i + 1) = omega arith in
    let one = HasStatus-passed n d (2 * i) x status at false_too.0 before in
    subst (λ k. HasStatus n (take k d) status) next (HasStatus-passed n d (2 * i + 1) y status at' (false_too.1 y refl) one)

-- if one of the first literals isn't false, and a later literal isn't false either, the clause is
-- neither unit nor a conflict
HasStatus-following : (n : List ℤ) (d : Clause) (i k : ℕ) (x lit : ℤ) → EachOnce d → slice_get d k ≡ Some x → i ≤ k
    → IsUnit n (take i d) lit
    → (¬ Has n x) → HasStatus n d More
HasStatus-following n d i k x lit once at following unit not_false =
    let before : Has (take k d) lit = Has-take i (take k d) lit (subst (λ e. Has e lit) (sym (take-take i k d following)) unit.here) in
    let here : Has d x = Has-at d k x at in (
      (λ conflict. not_false (conflict x here)),
      (λ other both.
          let first : x ≡ other = elim (both.others x here) [ inl same ↦ same | inr is_false ↦ absurd (not_false is_false) ] in
          elim (both.others lit (Has-take k d lit before)) [
            | inl same ↦ Has-before d k x once at (subst (Has (take k d)) (same ∙ sym first) before)
            | inr is_false ↦ unit.not_false is_false
          ]),
    )

-- if one literal isn't false, and a literal of a later pair isn't false either, the clause is
-- neither unit nor a conflict
pub HasStatus-open_pair : (n : List ℤ) (d : Clause) (i : ℕ) (x : ℤ) (second : Option ℤ) (lit : ℤ) → EachOnce d
    → slice_get d (2 * i) ≡ Some x
    → slice_get d (2 * i + 1) ≡ second → IsUnit n (take (2 * i) d) lit → (¬ Has n x) ⊎ ((l : ℤ) × (second ≡ Some l) × (¬ Has n l))
    → HasStatus n d More
HasStatus-open_pair n d i x second lit once at at' unit (inl not_false) =
    HasStatus-following n d (2 * i) (2 * i) x lit once at (omega arith) unit not_false
HasStatus-open_pair n d i x second lit once at at' unit (inr other) =
    HasStatus-following n d (2 * i) (2 * i + 1) other.0 lit once (at' ∙ other.1) (omega arith) unit other.2
