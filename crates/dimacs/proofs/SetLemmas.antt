-- Clauses as sets, and the marks of their literals.
use Rattle.std.proofs.Common.{◌≡◌, ◌↔◌, ◌⊎◌, ◌*◌, ◌/◌, ◌%◌, ◌^◌, ◌<◌, ℕ, ℤ, true, List, [], ◌∷◌, ◌++◌, length, get_or, set, zero, suc, refl}
use Rattle.std.proofs.Common.{sym, ap, ◌∙◌, inl, inr, ⊎_elim, arith, length-append}
use Rattle.std.proofs.lemmas.Bool.{eqb-true, cases_eq}
use Rattle.std.proofs.lemmas.List.{get_or-set_same, get_or-set_other}
use Rattle.lrup_model.specs.Literal.{code_of}
use Rattle.lrup_model.specs.Clause.{Has, EachOnce}
use Rattle.std.specs.Int.{bit_at, bit_not}
use Rattle.std.specs.Int.RustNames.{bit_or}
use Rattle.std.proofs.Common.{bit_and, w64, eqb, eq-eqb}
use Rattle.std.proofs.lemmas.Nat.Bits.{shr_and_one, bit_at-zero, bit_at_set_same, bit_at_set_other, bit_at_clear_same, bit_at_clear_other}
use Rattle.dimacs.specs.internal.Marks.{IsBitSet, MarksAre}
use Rattle.dimacs.specs.internal.Places.{AddsLiteral}

pub Has-push : (c : List ℤ) (l m : ℤ) → Has (c ++ l ∷ []) m ↔ (Has c m ⊎ (l ≡ m))
Has-push [] l m =
    (λ h. ⊎_elim (λ e. inr e) (λ none. absurd none) h, λ h. ⊎_elim (λ none. absurd none) (λ e. inl e) h)
Has-push (x ∷ c) l m =
    let below = Has-push c l m in (
      λ h. ⊎_elim (λ first. inl (inl first)) (λ later. ⊎_elim (λ old. inl (inr old)) (λ new. inr new) (below.0 later)) h,
      λ h. ⊎_elim (λ old. ⊎_elim (λ first. inl first) (λ later. inr (below.1 (inl later))) old) (λ new. inr (below.1 (inr new))) h,
    )

pub EachOnce-push : (c : List ℤ) (l : ℤ) → EachOnce c → ¬ Has c l → EachOnce (c ++ l ∷ [])
EachOnce-push [] l each other = (λ none. none, tt)
EachOnce-push (x ∷ c) l each other = (
  λ h. ⊎_elim (λ old. each.0 old) (λ e. other (inl (sym e))) ((Has-push c l x).0 h),
  EachOnce-push c l each.1 (λ h. other (inr h)),
)

-- ## marks

pub IsMarked-read : (words : List ℕ) (p : ℕ) → (eqb (bit_and (get_or words (p / 64) 0 / 2 ^ (p % 64)) 1) 1 ≡ true) ↔ IsBitSet words p
unfolding IsBitSet
IsMarked-read words p =
    let e = shr_and_one (get_or words (p / 64) 0) (p % 64) in
    (λ h. sym e ∙ eqb-true _ 1 h, λ h. eq-eqb _ 1 (e ∙ h))

-- setting bit k of word i adds this bit and no other
pub IsMarked-set : (words : List ℕ) (i k p : ℕ) → i < length words → k < 64
    → IsBitSet (set words i (bit_or (get_or words i 0) (1 * 2 ^ k % 2 ^ 64))) p ↔ (IsBitSet words p ⊎ ((p / 64 ≡ i) × (p % 64 ≡ k)))
unfolding IsBitSet
IsMarked-set words i k p within small =
    ⊎_elim
    (λ here.
    let word : get_or (set words i (bit_or (get_or words i 0) (1 * 2 ^ k % 2 ^ 64))) (p / 64) 0
    ≡ bit_or (get_or words i 0) (1 * 2 ^ k % 2 ^ 64) =
    ap (λ (m : ℕ). get_or (set words i (bit_or (get_or words i 0) (1 * 2 ^ k % 2 ^ 64))) m 0) here ∙ get_or-set_same words i _ 0 within in
    ⊎_elim
    (λ bit. (
      λ _. inr (here, bit),
      λ _. ap (λ (m : ℕ). bit_at m (p % 64)) word ∙ ap (bit_at (bit_or (get_or words i 0) (1 * 2 ^ k % 2 ^ 64))) bit
          ∙ bit_at_set_same w64 (get_or words i 0) k small,
    ))
    (λ other.
    let same : bit_at (get_or (set words i (bit_or (get_or words i 0) (1 * 2 ^ k % 2 ^ 64))) (p / 64) 0) (p % 64)
    ≡ bit_at (get_or words (p / 64) 0) (p % 64) = ap (λ (m : ℕ). bit_at m (p % 64)) word
    ∙ bit_at_set_other w64 (get_or words i 0) k small (p % 64) other ∙ ap (λ (m : ℕ). bit_at (get_or words m 0) (p % 64)) (sym here) in
    (λ h. inl (sym same ∙ h), λ h. ⊎_elim (λ old. same ∙ old) (λ both. absurd (other both.1)) h))
    (cases_eq (p % 64) k))
    (λ elsewhere.
    let same : bit_at (get_or (set words i (bit_or (get_or words i 0) (1 * 2 ^ k % 2 ^ 64))) (p / 64) 0) (p % 64)
    ≡ bit_at (get_or words (p / 64) 0) (p % 64) = ap (λ (m : ℕ). bit_at m (p % 64)) (get_or-set_other words i (p / 64) _ 0 elsewhere) in
    (λ h. inl (sym same ∙ h), λ h. ⊎_elim (λ old. same ∙ old) (λ both. absurd (elsewhere both.0)) h))
    (cases_eq (p / 64) i)

-- clearing bit k of word i removes this bit and no other
pub IsMarked-cleared : (words : List ℕ) (i k p : ℕ) → i < length words → k < 64
    → IsBitSet (set words i (bit_and (get_or words i 0) (bit_not w64 (1 * 2 ^ k % 2 ^ 64)))) p
    ↔ (IsBitSet words p × ((p / 64 ≡ i) × (p % 64 ≡ k) → ⊥))
unfolding IsBitSet
IsMarked-cleared words i k p within small =
    ⊎_elim
    (λ here.
    let word : get_or (set words i (bit_and (get_or words i 0) (bit_not w64 (1 * 2 ^ k % 2 ^ 64)))) (p / 64) 0
    ≡ bit_and (get_or words i 0) (bit_not w64 (1 * 2 ^ k % 2 ^ 64)) =
    ap (λ (m : ℕ). get_or (set words i (bit_and (get_or words i 0) (bit_not w64 (1 * 2 ^ k % 2 ^ 64)))) m 0) here
    ∙ get_or-set_same words i _ 0 within in
    ⊎_elim
    (λ bit.
    let none : bit_at (get_or (set words i (bit_and (get_or words i 0) (bit_not w64 (1 * 2 ^ k % 2 ^ 64)))) (p / 64) 0) (p % 64) ≡ 0 =
    ap (λ (m : ℕ). bit_at m (p % 64)) word ∙ ap (bit_at (bit_and (get_or words i 0) (bit_not w64 (1 * 2 ^ k % 2 ^ 64)))) bit
    ∙ bit_at_clear_same w64 (get_or words i 0) k small in
    (λ h. absurd (omega (arith, none, h)), λ h. absurd (h.1 (here, bit))))
    (λ other.
    let same : bit_at (get_or (set words i (bit_and (get_or words i 0) (bit_not w64 (1 * 2 ^ k % 2 ^ 64)))) (p / 64) 0) (p % 64)
    ≡ bit_at (get_or words (p / 64) 0) (p % 64) = ap (λ (m : ℕ). bit_at m (p % 64)) word
    ∙ bit_at_clear_other w64 (get_or words i 0) k small (p % 64) (omega arith) other
    ∙ ap (λ (m : ℕ). bit_at (get_or words m 0) (p % 64)) (sym here) in
    (λ h. (sym same ∙ h, λ both. other both.1), λ h. same ∙ h.0))
    (cases_eq (p % 64) k))
    (λ elsewhere.
    let same : bit_at (get_or (set words i (bit_and (get_or words i 0) (bit_not w64 (1 * 2 ^ k % 2 ^ 64)))) (p / 64) 0) (p % 64)
    ≡ bit_at (get_or words (p / 64) 0) (p % 64) = ap (λ (m : ℕ). bit_at m (p % 64)) (get_or-set_other words i (p / 64) _ 0 elsewhere) in
    (λ h. (sym same ∙ h, λ both. elsewhere both.0), λ h. same ∙ h.0))
    (cases_eq (p / 64) i)

-- if each word is unchanged or 0, no mark is new
IsMarked-fewer : (old new : List ℕ) → ((k : ℕ) → (get_or new k 0 ≡ get_or old k 0) ⊎ (get_or new k 0 ≡ 0)) → (p : ℕ) → IsBitSet new p
    → IsBitSet old p
unfolding IsBitSet
IsMarked-fewer old new same p h =
    ⊎_elim
    (λ e. ap (λ (m : ℕ). bit_at m (p % 64)) (sym e) ∙ h)
    (λ e. absurd (omega (arith, ap (λ (m : ℕ). bit_at m (p % 64)) e, h, bit_at-zero (p % 64))))
    (same (p / 64))

pub none_marked : (p : ℕ) → IsBitSet [] p → ⊥
unfolding IsBitSet
none_marked p h = omega (arith, h, bit_at-zero (p % 64))

pub MarksAre-none : MarksAre [] []
MarksAre-none = λ l. (λ h. none_marked (code_of l) h, λ none. absurd none)

pub MarksAre-fewer : (old new : List ℕ) → ((k : ℕ) → (get_or new k 0 ≡ get_or old k 0) ⊎ (get_or new k 0 ≡ 0)) → MarksAre old []
    → MarksAre new []
MarksAre-fewer old new same marks =
    λ l. (λ h. (marks l).0 (IsMarked-fewer old new same (code_of l) h), λ none. absurd none)

pub MarksAre-push : (old new : List ℕ) (c : List ℤ) (l : ℤ) → ((m : ℤ) → IsBitSet new (code_of m) ↔ (IsBitSet old (code_of m) ⊎ (m ≡ l)))
    → MarksAre old c → MarksAre new (c ++ l ∷ [])
MarksAre-push old new c l added h =
    λ m. (
      λ yes. (Has-push c l m).1 (⊎_elim (λ before. inl ((h m).0 before)) (λ e. inr (sym e)) ((added m).0 yes)),
      λ has. (added m).1 (⊎_elim (λ before. inl ((h m).1 before)) (λ e. inr (sym e)) ((Has-push c l m).0 has)),
    )

pub AddsLiteral-push : (c : List ℤ) (l : ℤ) → EachOnce c → ¬ Has c l → AddsLiteral c (c ++ l ∷ []) l
AddsLiteral-push c l each other = record {
  members = Has-push c l;
  each_once = EachOnce-push c l each other;
  size = omega (arith, length-append c (l ∷ []));
  order = inr (other, refl);
}

-- ## clearing the marks

-- only the literals that are left are marked
abbrev pub LeavesMarks : List ℕ → List ℤ → Type 0
LeavesMarks words left = (l : ℤ) → IsBitSet words (code_of l) → Has left l

pub Has-at : (c : List ℤ) (i : ℕ) (d : ℤ) → i < length c → Has c (get_or c i d)
Has-at [] i d lt = absurd (omega arith)
Has-at (x ∷ c) zero d lt = inl refl
Has-at (x ∷ c) (suc i) d lt = inr (Has-at c i d (omega arith))
