-- The next token: the spelling of a token that has begun, from its first byte.
use Rattle.std.proofs.Common.{◌≡◌, ◌⊎◌, ◌<◌, ◌≤◌, ℕ, pos, neg_ℤ, nat_abs, Bool, true, false, cond, ◌==◌, List, [], ◌∷◌, length, Option}
use Rattle.std.proofs.Common.{Some, None, refl, sym, ap, ◌∙◌, inl, inr, ⊎_elim, arith, eq-eqb, take, drop, unwrap_or, rules}
use Rattle.std.proofs.lemmas.Bool.{ne_eqb, cases_eq}
use Rattle.std.proofs.lemmas.List.{nil_from_length}
use Rattle.memchr.specs.Find.{IsFirstByte, is_byte}
use Rattle.lrup_model.specs.Literal.{IsLiteral, max_variable}
use Rattle.dimacs.specs.Lines.{is_separator, runs, all_tokens}
use Rattle.dimacs.specs.Numerals.{is_numeral, is_zero, value, number_of}
use Rattle.dimacs.specs.internal.Places.{lines_at, tokens_at, first_run, after_run, IsCapped, IsAtToken}
use Rattle.dimacs.proofs.LineLemmas.{tokens_at-token, tokens_at-nil, after_run-begun, first_run-begun, lines_at-line, after_run-nil}
use Rattle.dimacs.proofs.LineLemmas.{after_run-ended, ends_from_run}
use Rattle.dimacs.proofs.NumeralLemmas.{length-after_run}

pub tokens_from_lines : (n m : ℕ) (xs ys : List ℕ) → lines_at n xs ≡ lines_at m ys → tokens_at n xs ≡ tokens_at m ys
unfolding tokens_at
tokens_from_lines n m xs ys e = ap all_tokens e

-- after separators and comments, the first of the old tokens begins here, in line n
pub token_taken : (n m : ℕ) (old rest : List ℕ) (b : ℕ) (after : List ℕ) → lines_at n rest ≡ lines_at m old → IsAtToken rest
    → rest ≡ b ∷ after → tokens_at m old ≡ record { line = n; text = b ∷ first_run after } ∷ tokens_at n (after_run after)
token_taken n m old rest b after same place whole =
    let begins : is_separator b ≡ false = rw whole at place in
    tokens_from_lines m n old rest (sym same) ∙ ap (tokens_at n) whole ∙ tokens_at-token n b after begins

pub no_token : (n m : ℕ) (old rest : List ℕ) → lines_at n rest ≡ lines_at m old → length rest ≡ 0 → tokens_at m old ≡ []
no_token n m old rest same none =
    tokens_from_lines m n old rest (sym same) ∙ ap (tokens_at n) (nil_from_length rest none) ∙ tokens_at-nil n

-- ## the number of a token

is_zero-other : (b : ℕ) (bs : List ℕ) → (b == 48) ≡ false → is_zero (b ∷ bs) ≡ false
is_zero-other b [] e = e
is_zero-other b (c ∷ bs) e = refl

pub number_of-zero : (bs : List ℕ) → bs ≡ [] → number_of (48 ∷ bs) ≡ Some (pos 0)
unfolding number_of
number_of-zero bs e = rw e refl

zero_more : (bs : List ℕ) → (bs ≡ [] → ⊥) → is_zero (48 ∷ bs) ≡ false
zero_more [] ne = absurd (ne refl)
zero_more (c ∷ bs) ne = refl

pub number_of-leading_zero : (bs : List ℕ) → (bs ≡ [] → ⊥) → number_of (48 ∷ bs) ≡ None
unfolding number_of
number_of-leading_zero bs ne = rw (zero_more bs ne) refl

pub negative : (bs : List ℕ) → is_numeral bs ≡ true → number_of (45 ∷ bs) ≡ Some (neg_ℤ (pos (value bs)))
unfolding number_of
negative bs e = rw (is_zero-other 45 bs refl, e) refl

not_negative : (bs : List ℕ) → is_numeral bs ≡ false → number_of (45 ∷ bs) ≡ None
unfolding number_of
not_negative bs e = rw (is_zero-other 45 bs refl, e) refl

positive : (b : ℕ) (bs : List ℕ) → (b == 48) ≡ false → is_numeral (b ∷ bs) ≡ true → number_of (b ∷ bs) ≡ Some (pos (value (b ∷ bs)))
unfolding number_of
positive b bs other e = rw (is_zero-other b bs other, e) refl

not_positive : (b : ℕ) (bs : List ℕ) → (b == 48) ≡ false → (b == 45) ≡ false → is_numeral (b ∷ bs) ≡ false → number_of (b ∷ bs) ≡ None
unfolding number_of
not_positive b bs other unsigned e = rw (is_zero-other b bs other, e, unsigned) refl

-- the digits come after a minus sign, or are the whole token
abbrev pub IsDigitsOf : ℕ → List ℕ → List ℕ → List ℕ → Type 0
IsDigitsOf b after rest digits = ((b ≡ 45) × (digits ≡ after)) ⊎ ((b ≡ 45 → ⊥) × (digits ≡ rest))

pub digits_of : (b : ℕ) (after rest digits : List ℕ) → rest ≡ b ∷ after → digits ≡ cond (b == 45) (drop 1 rest) rest
    → IsDigitsOf b after rest digits
digits_of b after rest digits whole is =
    ⊎_elim
    (λ (e : b ≡ 45). inl (e, is ∙ ap (λ t. cond t (drop 1 rest) rest) (eq-eqb b 45 e) ∙ ap (drop 1) whole))
    (λ (other : b ≡ 45 → ⊥). inr (other, is ∙ ap (λ t. cond t (drop 1 rest) rest) (ne_eqb b 45 other)))
    (cases_eq b 45)

pub number_of-none : (b : ℕ) (after rest digits : List ℕ) → rest ≡ b ∷ after → IsAtToken rest → (b ≡ 48 → ⊥)
    → IsDigitsOf b after rest digits → is_numeral (first_run digits) ≡ false → number_of (b ∷ first_run after) ≡ None
number_of-none b after rest digits whole place other which none =
    let begins : is_separator b ≡ false = rw whole at place in
    ⊎_elim
    (λ minus. ap (λ (x : ℕ). number_of (x ∷ first_run after)) minus.0
    ∙ not_negative (first_run after) (ap (λ (x : List ℕ). is_numeral (first_run x)) (sym minus.1) ∙ none))
    (λ plain. not_positive b (first_run after) (ne_eqb b 48 other) (ne_eqb b 45 plain.0)
    (ap is_numeral (sym (first_run-begun b after begins)) ∙ ap (λ (x : List ℕ). is_numeral (first_run x)) (sym whole ∙ sym plain.1) ∙ none))
    which

pub number_of-some : (b : ℕ) (after rest digits : List ℕ) → rest ≡ b ∷ after → IsAtToken rest
    → (b ≡ 48 → ⊥) → IsDigitsOf b after rest digits → is_numeral (first_run digits) ≡ true
    → number_of (b ∷ first_run after) ≡ Some (cond (b == 45) (neg_ℤ (pos (value (first_run digits)))) (pos (value (first_run digits))))
number_of-some b after rest digits whole place other which some =
    let begins : is_separator b ≡ false = rw whole at place in
    ⊎_elim
    (λ minus.
    rw (eq-eqb b 45 minus.0)
    (ap (λ (x : ℕ). number_of (x ∷ first_run after)) minus.0 ∙ negative (first_run after) (ap (λ (x : List ℕ). is_numeral (first_run x))
    (sym minus.1) ∙ some) ∙ ap (λ (x : List ℕ). Some (neg_ℤ (pos (value (first_run x))))) (sym minus.1)))
    (λ plain.
    let same : first_run digits ≡ b ∷ first_run after = ap first_run (plain.1 ∙ whole) ∙ first_run-begun b after begins in
    rw (ne_eqb b 45 plain.0)
    (positive b (first_run after) (ne_eqb b 48 other) (ap is_numeral (sym same) ∙ some)
    ∙ ap (λ (x : List ℕ). Some (pos (value x))) (sym same)))
    which

pub after_run_digits : (b : ℕ) (after rest digits : List ℕ) → rest ≡ b ∷ after → IsAtToken rest → IsDigitsOf b after rest digits
    → after_run digits ≡ after_run after
after_run_digits b after rest digits whole place which =
    let begins : is_separator b ≡ false = rw whole at place in
    ⊎_elim (λ minus. ap after_run minus.1) (λ plain. ap after_run (plain.1 ∙ whole) ∙ after_run-begun b after begins) which

pub digits_within : (b : ℕ) (after rest digits : List ℕ) → rest ≡ b ∷ after → IsDigitsOf b after rest digits
    → length (after_run digits) ≤ length rest
digits_within b after rest digits whole which =
    ⊎_elim (λ minus. omega (arith, length-after_run digits, ap length minus.1, ap length whole))
    (λ plain. omega (arith, length-after_run digits, ap length plain.1)) which

-- ## the magnitude of the number

abs_signed : (t : Bool) (m : ℕ) → nat_abs (cond t (neg_ℤ (pos m)) (pos m)) ≡ m
abs_signed true m = search rules
abs_signed false m = refl

pub above_range : (t : Bool) (n m vars : ℕ) → vars ≤ max_variable → IsCapped n m → vars < n
    → vars < nat_abs (cond t (neg_ℤ (pos m)) (pos m))
above_range t n m vars few kept above =
    rw (abs_signed t m) (⊎_elim (λ e. omega (arith, e)) (λ both. omega (arith, both.1)) kept)

pub within_range : (t : Bool) (n m vars : ℕ) → vars ≤ max_variable → IsCapped n m → n ≤ vars → 0 < n
    → (m ≡ n) × IsLiteral vars (cond t (neg_ℤ (pos n)) (pos n))
within_range t n m vars few kept within some =
    let same : m ≡ n = ⊎_elim (λ e. sym e) (λ both. absurd (omega (arith, both.0))) kept in
    (same, (rw (abs_signed t n) some, rw (abs_signed t n) within))

-- ## the header's line

pub line_taken : (n m : ℕ) (old rest : List ℕ) (found : Option ℕ) (end : ℕ) → lines_at n rest ≡ lines_at m old
    → IsAtToken rest → 0 < length rest → IsFirstByte (is_byte 10) rest found → end ≡ unwrap_or found (length rest)
    → lines_at m old ≡ record { number = n; tokens = runs (take end rest) } ∷ lines_at n (drop end rest)
line_taken n m old rest found end same place some first is = sym same ∙ lines_at-line n rest found end place some first is

pub after_run_at_end : (bs : List ℕ) → first_run bs ≡ [] → after_run bs ≡ bs
after_run_at_end [] none = after_run-nil
after_run_at_end (b ∷ bs) none = after_run-ended b bs (ends_from_run b bs none)
