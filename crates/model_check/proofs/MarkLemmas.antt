-- The marks of literals.
use Rattle.std.proofs.Common.{◌≡◌, ◌↔◌, ◌<◌, ℕ, ℤ, pos, negsuc, neg_ℤ, nat_abs, Bool, true, false, List, [], ◌∷◌, ◌++◌, length}
use Rattle.std.proofs.Common.{get_or, set, replicate, zero, suc, refl, sym, ap, subst, ◌∙◌, ⊎_elim, arith}
use Rattle.std.proofs.lemmas.Bool.{cases_eq, cases_lt, false≢true}
use Rattle.std.proofs.lemmas.List.{get_or-set_same, get_or-set_other, get_or-replicate, get_or_past, length-replicate}
use Rattle.lrup_model.specs.Literal.{code_of}
use Rattle.lrup_model.specs.Clause.{Has}
use Rattle.lrup_model.specs.lemmas.ClauseLemmas.{Has-append_left, Has-push, Has-push_cases}
use Rattle.lrup_model.specs.lemmas.CodeLemmas.{code_of-injective}
use Rattle.model_check.specs.Answers.{AreConsistent}
use Rattle.model_check.specs.internal.Marks.{HasMark, AreMarked}

pub mark_read : (marks : List Bool) (l : ℤ) (place : ℕ) (mark : Bool) → place ≡ code_of l → mark ≡ get_or marks place false
    → (mark ≡ true) ↔ HasMark marks l
unfolding HasMark
mark_read marks l place mark here is =
    let e : mark ≡ get_or marks (code_of l) false = is ∙ ap (λ (k : ℕ). get_or marks k false) here in
    (λ h. sym e ∙ h, λ h. e ∙ h)

unset : (n k : ℕ) → get_or (replicate n false) k false ≡ false
unset n k =
    ⊎_elim (λ lt. get_or-replicate n k false false lt)
    (λ past. get_or_past (replicate n false) k false (omega (arith, length-replicate n false, past))) (cases_lt k n)

pub none_marked : (marks : List Bool) (n : ℕ) → marks ≡ replicate n false → AreMarked marks []
unfolding HasMark
none_marked marks n is =
    λ l. (
      λ h. absurd (false≢true (sym (ap (λ (x : List Bool). get_or x (code_of l) false) is ∙ unset n (code_of l)) ∙ h)),
      λ nothing. absurd nothing,
    )

pub one_more : (marks : List Bool) (literals : List ℤ) (l : ℤ) → code_of l < length marks → AreMarked marks literals
    → AreMarked (set marks (code_of l) true) (literals ++ l ∷ [])
unfolding HasMark
one_more marks literals l within h m =
    ⊎_elim
    (λ (same : code_of m ≡ code_of l).
    let e : l ≡ m = sym (code_of-injective m l same) in
    let mark : get_or (set marks (code_of l) true) (code_of m) false ≡ true =
    ap (λ (k : ℕ). get_or (set marks (code_of l) true) k false) same ∙ get_or-set_same marks (code_of l) true false within in
    (λ _. subst (Has (literals ++ l ∷ [])) e (Has-push literals l), λ _. mark))
    (λ (other : code_of m ≡ code_of l → ⊥).
    let mark : get_or (set marks (code_of l) true) (code_of m) false ≡ get_or marks (code_of m) false =
    get_or-set_other marks (code_of l) (code_of m) true false other in (
      λ marked. Has-append_left literals (l ∷ []) m ((h m).0 (sym mark ∙ marked)),
      λ has. mark ∙ (h m).1 (⊎_elim (λ before. before) (λ e. absurd (other (ap code_of (sym e)))) (Has-push_cases literals l m has)),
    ))
    (cases_eq (code_of m) (code_of l))

neg_neg : (l : ℤ) → neg_ℤ (neg_ℤ l) ≡ l
neg_neg (pos zero) = refl
neg_neg (pos (suc v)) = refl
neg_neg (negsuc v) = refl

not_own : (l : ℤ) → 0 < nat_abs l → l ≡ neg_ℤ l → ⊥
not_own (pos zero) some e = omega arith
not_own (pos (suc v)) some e = cc
not_own (negsuc v) some e = cc

-- one more literal, whose complement isn't there yet
pub consistent_more : (literals : List ℤ) (l : ℤ) → 0 < nat_abs l → AreConsistent literals → ¬ Has literals (neg_ℤ l)
    → AreConsistent (literals ++ l ∷ [])
consistent_more literals l some old none m here there =
    ⊎_elim
    (λ first. ⊎_elim
    (λ second. old m first second)
    (λ (e : l ≡ neg_ℤ m). none (subst (Has literals) (sym (ap neg_ℤ e ∙ neg_neg m)) first))
    (Has-push_cases literals l (neg_ℤ m) there))
    (λ (same : l ≡ m). ⊎_elim
    (λ second. none (subst (Has literals) (ap neg_ℤ (sym same)) second))
    (λ (e : l ≡ neg_ℤ m). not_own l some (e ∙ ap neg_ℤ (sym same)))
    (Has-push_cases literals l (neg_ℤ m) there))
    (Has-push_cases literals l m here)

pub consistent_none : AreConsistent []
consistent_none l here there = here
