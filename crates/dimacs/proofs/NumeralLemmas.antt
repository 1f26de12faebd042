-- How a token's spelling and its number change, byte by byte.
use Rattle.std.proofs.Common.{◌≡◌, ◌⊎◌, ◌+◌, ◌-◌, ◌*◌, ◌<◌, ◌≤◌, ℕ, true, false, cond, ◌&&◌, leb, List, [], ◌∷◌, length, refl, sym, ap, ◌∙◌}
use Rattle.std.proofs.Common.{inr, ⊎_elim, arith}
use Rattle.std.proofs.lemmas.Bool.{and_from, and_left, and_right, and_cases, cases_Bool, leb-false, le-leb, lt-leb, ne_eqb}
use Rattle.std.proofs.lemmas.List.{nil_from_length}
use Rattle.lrup_model.specs.Literal.{max_variable}
use Rattle.dimacs.specs.Lines.{is_separator}
use Rattle.dimacs.specs.Numerals.{is_digit, all_digits, value_after, value, is_numeral}
use Rattle.dimacs.specs.internal.Places.{first_run, after_run, IsCapped, ReadsNumeral}
use Rattle.dimacs.proofs.LineLemmas.{first_run-begun, first_run-ended, first_run-nil, after_run-begun, after_run-ended, after_run-nil}

pub digit_begins : (b : ℕ) → 48 ≤ b → is_separator b ≡ false
digit_begins b h = rw (
  ne_eqb b 32 (λ e. omega (arith, e)),
  ne_eqb b 9 (λ e. omega (arith, e)),
  ne_eqb b 13 (λ e. omega (arith, e)),
  ne_eqb b 10 (λ e. omega (arith, e)),
) refl

is_digit-from : (b : ℕ) → 48 ≤ b → b ≤ 57 → is_digit b ≡ true
is_digit-from b low high = and_from (leb 48 b) (leb b 57) (le-leb 48 b low) (le-leb b 57 high)

pub length-after_run : (bs : List ℕ) → length (after_run bs) ≤ length bs
unfolding after_run
length-after_run [] = omega arith
length-after_run (b ∷ bs) =
    let below = length-after_run bs in
    elim (is_separator b) as (λ t. length (cond t (b ∷ bs) (after_run bs)) ≤ length (b ∷ bs)) [
      | true ↦ omega arith
      | false ↦ omega (arith, below)
    ]

pub value_after-le : (n : ℕ) (bs : List ℕ) → n ≤ value_after n bs
value_after-le n [] = omega arith
value_after-le n (b ∷ bs) = omega (arith, value_after-le (10 * n + (b - 48)) bs)

-- ## one more digit

pub digits_more : (b : ℕ) (bs : List ℕ) → 48 ≤ b → b ≤ 57 → all_digits (first_run (b ∷ bs)) ≡ all_digits (first_run bs)
digits_more b bs low high = rw (first_run-begun b bs (digit_begins b low), is_digit-from b low high) refl

pub number_more : (b n : ℕ) (bs : List ℕ) → 48 ≤ b → value_after n (first_run (b ∷ bs)) ≡ value_after (10 * n + (b - 48)) (first_run bs)
number_more b n bs low = rw (first_run-begun b bs (digit_begins b low)) refl

pub after_run_more : (b : ℕ) (bs : List ℕ) → 48 ≤ b → after_run (b ∷ bs) ≡ after_run bs
after_run_more b bs low = after_run-begun b bs (digit_begins b low)

-- a run that begins with a byte other than a digit isn't all digits
pub digits_broken : (b : ℕ) (bs : List ℕ) → is_separator b ≡ false → is_digit b ≡ false → all_digits (first_run (b ∷ bs)) ≡ false
digits_broken b bs begins none = rw (first_run-begun b bs begins, none) refl

-- reading one more digit of a number
pub value_more : (rest : List ℕ) (b : ℕ) (after : List ℕ) (n d m : ℕ) → rest ≡ b ∷ after → 48 ≤ b → d ≡ b - 48
    → value_after n (first_run rest) ≡ m → value_after (10 * n + d) (first_run after) ≡ m
value_more rest b after n d m whole low d_is h =
    ap (λ (k : ℕ). value_after (10 * n + k) (first_run after)) d_is
    ∙ sym (ap (λ (x : List ℕ). value_after n (first_run x)) whole ∙ number_more b n after low) ∙ h

-- ## the first digit

pub is_numeral-begun : (b : ℕ) (bs : List ℕ) → 49 ≤ b → b ≤ 57 → is_numeral (first_run (b ∷ bs)) ≡ all_digits (first_run bs)
is_numeral-begun b bs low high = rw (first_run-begun b bs (digit_begins b (omega arith)), le-leb 49 b low, le-leb b 57 high) refl

pub value-begun : (b : ℕ) (bs : List ℕ) → 49 ≤ b → value (first_run (b ∷ bs)) ≡ value_after (b - 48) (first_run bs)
value-begun b bs low = rw (first_run-begun b bs (digit_begins b (omega arith))) (ap (λ (n : ℕ). value_after n (first_run bs)) (omega arith))

-- a numeral begins neither with 0 nor with a byte other than a digit
not_numeral : (b : ℕ) (bs : List ℕ) → (b ≡ 48) ⊎ (is_digit b ≡ false) → is_numeral (b ∷ bs) ≡ false
not_numeral b bs h =
    and_left (leb 49 b && leb b 57) (all_digits bs)
    (⊎_elim (λ e. rw e refl) (λ none. ⊎_elim (λ low. and_left (leb 49 b) (leb b 57) (lt-leb 49 b (omega (
      arith,
      leb-false 48 b low,
    )))) (λ high. and_right (leb 49 b) (leb b 57) high) (and_cases (leb 48 b) (leb b 57) none)) h)

pub numeral_broken : (text : List ℕ) (b : ℕ) (bs : List ℕ) → text ≡ b ∷ bs → (b ≡ 48) ⊎ (is_digit b ≡ false)
    → is_numeral (first_run text) ≡ false
numeral_broken text b bs whole h =
    rw whole
    (⊎_elim (λ (yes : is_separator b ≡ true). ap is_numeral (first_run-ended b bs yes))
    (λ (no : is_separator b ≡ false). ap is_numeral (first_run-begun b bs no) ∙ not_numeral b (first_run bs) h)
    (cases_Bool (is_separator b)))

pub numeral_none : (text : List ℕ) → length text ≡ 0 → is_numeral (first_run text) ≡ false
numeral_none text none = ap (λ (x : List ℕ). is_numeral (first_run x)) (nil_from_length text none) ∙ ap is_numeral first_run-nil

-- a run with a later byte that isn't a digit is no numeral
pub numeral_stops : (text : List ℕ) (b : ℕ) (after rest : List ℕ) (d : ℕ) (more : List ℕ) → text ≡ b ∷ after → 49 ≤ b → b ≤ 57
    → all_digits (first_run rest) ≡ all_digits (first_run after) → rest ≡ d ∷ more → is_separator d ≡ false → is_digit d ≡ false
    → is_numeral (first_run text) ≡ false
numeral_stops text b after rest d more whole low high same rest_is begins none =
    ap (λ (x : List ℕ). is_numeral (first_run x)) whole ∙ is_numeral-begun b after low high ∙ sym same
    ∙ ap (λ (x : List ℕ). all_digits (first_run x)) rest_is ∙ digits_broken d more begins none

-- at the end of its digits, the numeral has been read
pub numeral_read : (text : List ℕ) (b : ℕ) (after rest : List ℕ) (n first : ℕ) → text ≡ b ∷ after
    → 49 ≤ b → b ≤ 57 → first ≡ b - 48 → all_digits (first_run rest) ≡ all_digits (first_run after)
    → IsCapped (value_after n (first_run rest)) (value_after first (first_run after)) → 0 < n → after_run rest ≡ after_run after
    → first_run rest ≡ [] → after_run rest ≡ rest → ReadsNumeral text n rest
numeral_read text b after rest n first whole low high first_is same number positive left ended here = record {
  numeral = ap (λ (x : List ℕ). is_numeral (first_run x)) whole ∙ is_numeral-begun b after low high ∙ sym same ∙ ap all_digits ended;
  number =
      let m : value_after first (first_run after) ≡ value (first_run text) = ap (λ (k : ℕ). value_after k (first_run after)) first_is
      ∙ sym (value-begun b after low) ∙ ap (λ (x : List ℕ). value (first_run x)) (sym whole) in
      let kept : value_after n (first_run rest) ≡ n = ap (value_after n) ended in
      rw (← kept, ← m) number;
  positive = positive;
  rest_is = sym here ∙ left ∙ sym (ap after_run whole ∙ after_run_more b after (omega arith));
}

-- the number is known to be too large before the end of its digits
pub numeral_large : (text : List ℕ) (b : ℕ) (after rest left : List ℕ) (n first : ℕ) → text ≡ b ∷ after → 49 ≤ b → b ≤ 57 → first ≡ b - 48
    → all_digits (first_run rest) ≡ all_digits (first_run after) → value_after n (first_run rest) ≡ value_after first (first_run after)
    → after_run rest ≡ after_run after → max_variable < n → all_digits (first_run rest) ≡ true → left ≡ after_run rest
    → ReadsNumeral text n left
numeral_large text b after rest left n first whole low high first_is same number after_is large digits left_is =
    let m : value_after n (first_run rest) ≡ value (first_run text) = number ∙ ap (λ (k : ℕ). value_after k (first_run after)) first_is
    ∙ sym (value-begun b after low) ∙ ap (λ (x : List ℕ). value (first_run x)) (sym whole) in record {
      numeral = ap (λ (x : List ℕ). is_numeral (first_run x)) whole ∙ is_numeral-begun b after low high ∙ sym same ∙ digits;
      number = inr (large, omega (arith, value_after-le n (first_run rest), m));
      positive = omega arith;
      rest_is = left_is ∙ after_is ∙ sym (ap after_run whole ∙ after_run_more b after (omega arith));
    }

pub ended_at_separator : (rest : List ℕ) (b : ℕ) (bs : List ℕ) → rest ≡ b ∷ bs → is_separator b ≡ true
    → (first_run rest ≡ []) × (after_run rest ≡ rest)
ended_at_separator rest b bs e separates =
    (ap first_run e ∙ first_run-ended b bs separates, ap after_run e ∙ after_run-ended b bs separates ∙ sym e)

pub ended_at_end : (rest : List ℕ) → length rest ≡ 0 → (first_run rest ≡ []) × (after_run rest ≡ rest)
ended_at_end rest none = let e = nil_from_length rest none in (ap first_run e ∙ first_run-nil, ap after_run e ∙ after_run-nil ∙ sym e)
