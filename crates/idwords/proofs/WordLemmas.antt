-- Lemmas about words: the fields of an identity's word, and literals in the row.
use Rattle.std.proofs.Common.{◌≡◌, ◌≢◌, ℕ, ◌+◌, ◌*◌, ◌/◌, ◌%◌, ◌^◌, bit_and, ◌<◌, ◌≤◌, ◌⊎◌, true, false, ℤ, zero, suc, eqb, List, [], ◌∷◌}
use Rattle.std.proofs.Common.{◌++◌, length, slice_index, slice_set, slice_get, Option, None, Some, refl, ap, ap₂, ◌∙◌, inl, inr, arith}
use Rattle.std.proofs.Common.{get_or-set_other, eq-eqb, ne_eqb}
use Rattle.std.specs.Prelude.{IfSome}
use Rattle.std.specs.Option.{is_some}
use Rattle.std.specs.List.{AllByRecursion}
use Rattle.std.proofs.lemmas.Bool.{cond-true, cond-false}
use Rattle.std.proofs.lemmas.Nat.{and_mask}
use Rattle.lrup_model.specs.Clause.{Clause}
use Rattle.lrup_model.specs.State.{Slot, absent, live, retired}
use Rattle.lrup_model.specs.CallerView.{StoredClause}
use Rattle.lrup_model.specs.Pass.{Spells}
use Rattle.lrup_model.specs.Literal.{IsLiteral, IsCode, code_of, max_variable}
use Rattle.lrup_model.specs.lemmas.CodeLemmas.{IsCode-code_of, code_of-injective}
use Rattle.idwords.specs.internal.RowWords.{identity_word, word_of, literal_word, packed, OccurAt, LiesAt}
use Rattle.idwords.specs.Words.{word_state, length_of, start_of, words_for, pair_of, half_of, ShowsStored}

-- The fields of a word

pub state-identity_word : (state len start : ℕ) → state < 4 → word_state (identity_word state len start) ≡ state
state-identity_word state len start small = omega arith

pub length-identity_word : (state len start : ℕ) → state < 4 → len < 1048576 → length_of (identity_word state len start) ≡ len
length-identity_word state len start small short = omega arith

pub start-identity_word : (state len start : ℕ) → state < 4 → len < 1048576 → start_of (identity_word state len start) ≡ start
start-identity_word state len start small short = omega arith

shows_word : (state : ℕ) (stored : StoredClause) → 0 < state → state < 3 → length stored.literals < 1048576
    → ShowsStored (Some stored) (identity_word state (length stored.literals) stored.start)
shows_word state stored some small short =
    let s = state-identity_word state (length stored.literals) stored.start (omega arith) in (
      omega arith,
      omega arith,
      length-identity_word state (length stored.literals) stored.start (omega arith) short,
      start-identity_word state (length stored.literals) stored.start (omega arith) short,
    )

-- what is stored has fewer than 2^20 literals
abbrev pub IsShort : Option StoredClause → Type 0
IsShort None = Unit {0}
IsShort (Some stored) = length stored.literals < 1048576

pub shows_slot : (slot : Slot) (o : Option StoredClause) → Spells slot o → IsShort o → ShowsStored o (word_of slot o)
shows_slot absent None spells short = refl
shows_slot absent (Some stored) spells short = absurd spells
shows_slot (live c) None spells short = absurd spells
shows_slot (live c) (Some stored) spells short = shows_word 1 stored (omega arith) (omega arith) short
shows_slot (retired c) None spells short = absurd spells
shows_slot (retired c) (Some stored) spells short = shows_word 2 stored (omega arith) (omega arith) short

-- Words in the row

-- words in the row stay the same after a write elsewhere
stand-set : (words : List ℕ) (place : ℕ) (ws : List ℕ) (at n : ℕ) → OccurAt words place ws → (at < place) ⊎ (place + length ws ≤ at)
    → OccurAt (slice_set words at n) place ws
stand-set words place [] at n stand apart = tt
stand-set words place (w ∷ ws) at n stand apart =
    let other : place ≢ at = λ same. elim apart [ inl below ↦ omega arith | inr above ↦ omega arith ] in
    let rest : (at < place + 1) ⊎ (place + 1 + length ws ≤ at) = elim apart [
      | inl below ↦ inl (omega arith)
      | inr above ↦ inr (omega arith)
    ] in
    (get_or-set_other words at place n 0 other ∙ stand.0, stand-set words (place + 1) ws at n stand.1 rest)

-- Literals, two in a word

pub length-packed : (c : Clause) → length (packed c) ≡ words_for (length c)
length-packed [] = refl
length-packed (l ∷ []) = refl
length-packed (l ∷ m ∷ c) = let rest = length-packed c in omega arith

pub some_literals : (l : ℤ) (m : Option ℤ) → 0 < length (pair_of l m)
some_literals l None = omega arith
some_literals l (Some m) = omega arith

pub two_literals : (l : ℤ) (m : Option ℤ) → is_some m ≡ true → length (pair_of l m) ≡ 2
two_literals l None both = cc
two_literals l (Some m) both = refl

pub one_literal : (l : ℤ) (m : Option ℤ) → is_some m ≡ false → length (pair_of l m) ≡ 1
one_literal l None alone = refl
one_literal l (Some m) alone = cc

-- after an even number of literals, one or two more literals take one more word
pub packed-pair : (d : Clause) (l : ℤ) (m : Option ℤ) → length d % 2 ≡ 0 → packed (d ++ pair_of l m) ≡ packed d ++ literal_word l m ∷ []
packed-pair [] l None even = refl
packed-pair [] l (Some m) even = refl
packed-pair (x ∷ []) l m even = absurd (omega arith)
packed-pair (x ∷ y ∷ d) l m even = ap (λ (ws : List ℕ). literal_word x (Some y) ∷ ws) (packed-pair d l m (omega arith))

-- Literals in the row

pub lies-set : (words : List ℕ) (place : ℕ) (c : Clause) (at n : ℕ) → LiesAt words place c
    → (at < place) ⊎ (place + words_for (length c) ≤ at) → LiesAt (slice_set words at n) place c
lies-set words place c at n lies apart =
    let len = length-packed c in
    stand-set words place (packed c) at n lies (elim apart [ inl below ↦ inl below | inr above ↦ inr (omega arith) ])

pub lies-pair : (words : List ℕ) (place : ℕ) (d : Clause) (l : ℤ) (m : Option ℤ) → length d % 2 ≡ 0 → LiesAt words place d
    → slice_index words (place + length d / 2) ≡ literal_word l m → LiesAt words place (d ++ pair_of l m)
lies-pair words place [] l None even lies here = (ap (λ (n : ℕ). slice_index words n) (omega arith) ∙ here, tt)
lies-pair words place [] l (Some m) even lies here = (ap (λ (n : ℕ). slice_index words n) (omega arith) ∙ here, tt)
lies-pair words place (x ∷ []) l m even lies here = absurd (omega arith)
lies-pair words place (x ∷ y ∷ d) l m even lies here =
    (lies.0, lies-pair words (place + 1) d l m (omega arith) lies.1 (ap (λ (n : ℕ). slice_index words n) (omega arith) ∙ here))

half_zero : (half word : ℕ) → half ≡ 0 → half_of half word ≡ word % 4294967296
half_zero half word is = cond-true (eqb half 0) (word % 4294967296) (word / 4294967296) (eq-eqb half 0 is)

half_one : (half word : ℕ) → half ≢ 0 → half_of half word ≡ word / 4294967296
half_one half word is = cond-false (eqb half 0) (word % 4294967296) (word / 4294967296) (ne_eqb half 0 is)

-- a half of a word can be read with a shift and a mask, as the code does
pub half_read : (half word : ℕ) → half < 2 → word < 18446744073709551616 → bit_and (word / 2 ^ (32 * half)) 4294967295 ≡ half_of half word
half_read zero word some small = and_mask (word / 1) 32 ∙ omega arith
half_read (suc zero) word some small = and_mask (word / 4294967296) 32 ∙ omega arith
half_read (suc (suc half)) word some small = absurd (omega arith)

code_small : (vars : ℕ) (l : ℤ) → vars ≤ max_variable → IsLiteral vars l → code_of l < 4294967296
code_small vars l few is = let code = IsCode-code_of vars l is in omega (arith, code.1)

-- half 0 of a word of literals is the code of the first literal
first_half : (l : ℤ) (m : Option ℤ) (half word : ℕ) → half ≡ 0 → code_of l < 4294967296 → word ≡ literal_word l m
    → half_of half word ≡ code_of l
first_half l None half word is small here = half_zero half word is ∙ omega arith
first_half l (Some m) half word is small here = half_zero half word is ∙ omega arith

second_half : (l m : ℤ) (half word : ℕ) → half ≡ 1 → code_of l < 4294967296 → word ≡ literal_word l (Some m) → half_of half word ≡ code_of m
second_half l m half word is small here = half_one half word (λ none. omega arith) ∙ omega arith

-- each literal's code is in a half of its word
pub lies_get : (vars : ℕ) (words : List ℕ) (place : ℕ) (c : Clause) (k : ℕ) (l : ℤ) → vars ≤ max_variable
    → AllByRecursion (IsLiteral vars) c → LiesAt words place c
    → slice_get c k ≡ Some l → half_of (k % 2) (slice_index words (place + k / 2)) ≡ code_of l
lies_get vars words place [] k l few all lies here = absurd (cc)
lies_get vars words place (x ∷ []) zero l few all lies here =
    let same : x ≡ l = cc in
    first_half x None 0 (slice_index words (place + 0)) refl (code_small vars x few all.0)
    (ap (λ (n : ℕ). slice_index words n) (omega arith) ∙ lies.0) ∙ ap code_of same
lies_get vars words place (x ∷ []) (suc k) l few all lies here = absurd (cc)
lies_get vars words place (x ∷ y ∷ c) zero l few all lies here =
    let same : x ≡ l = cc in
    first_half x (Some y) 0 (slice_index words (place + 0)) refl (code_small vars x few all.0)
    (ap (λ (n : ℕ). slice_index words n) (omega arith) ∙ lies.0) ∙ ap code_of same
lies_get vars words place (x ∷ y ∷ c) (suc zero) l few all lies here =
    let same : y ≡ l = cc in
    second_half x y 1 (slice_index words (place + 0)) refl (code_small vars x few all.0) (ap (λ (n : ℕ). slice_index words n) (omega arith)
    ∙ lies.0) ∙ ap code_of same
lies_get vars words place (x ∷ y ∷ c) (suc (suc k)) l few all lies here =
    let half : suc (suc k) % 2 ≡ k % 2 = omega arith in
    let at : place + suc (suc k) / 2 ≡ place + 1 + k / 2 = omega arith in
    ap₂ (λ (h n : ℕ). half_of h (slice_index words n)) half at ∙ lies_get vars words (place + 1) c k l few all.1.1 lies.1 here

-- A word has one literal or two

-- the literal has a code, which is below 2^25
abbrev pub HasCode : ℤ → Type 0
HasCode l = IsCode max_variable (code_of l)

pub word_injective : (l k : ℤ) (m n : Option ℤ) → HasCode l → HasCode k → IfSome m HasCode → IfSome n HasCode
    → literal_word l m ≡ literal_word k n → pair_of l m ≡ pair_of k n
word_injective l k None None first first' second second' same = ap (λ (x : ℤ). x ∷ []) (code_of-injective l k same)
word_injective l k None (Some n) first first' second second' same = absurd (omega (arith, first, first', second'))
word_injective l k (Some m) None first first' second second' same = absurd (omega (arith, first, first', second))
word_injective l k (Some m) (Some n) first first' second second' same =
    ap₂ (λ (x y : ℤ). x ∷ y ∷ []) (code_of-injective l k (omega (arith, first, first', second, second')))
    (code_of-injective m n (omega (arith, first, first', second, second')))
