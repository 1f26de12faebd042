-- What digits spell, digit by digit.
use Rattle.std.proofs.Common.{◌≡◌, ◌⊎◌, ◌+◌, ◌-◌, ◌*◌, ◌<◌, ◌≤◌, ℕ, pos, neg_ℤ, true, false, ◌&&◌, ◌==◌, leb, codes, Some, None, List, []}
use Rattle.std.proofs.Common.{◌∷◌, ◌++◌, length, get_or, zero, suc, refl, sym, ap, ◌∙◌, inl, inr, ⊎_elim, arith}
use Rattle.std.proofs.lemmas.Bool.{and_from, and_left, and_right, and_parts, le-leb, lt-leb, leb-true, ne_eqb, false≢true}
use Rattle.lrup_model.specs.Literal.{max_variable}
use Rattle.dimacs.specs.Numerals.{is_digit, all_digits, value_after, value, is_numeral, number_of}
use Rattle.model_check.specs.internal.Numbers.{IsCapped}

pub digits_more : (ds : List ℕ) (b : ℕ) → all_digits ds ≡ true → 48 ≤ b → b ≤ 57 → all_digits (ds ++ b ∷ []) ≡ true
digits_more [] b all low high = rw (le-leb 48 b low, le-leb b 57 high) refl
digits_more (d ∷ ds) b all low high =
    let parts = and_parts (is_digit d) (all_digits ds) all in
    and_from (is_digit d) (all_digits (ds ++ b ∷ [])) parts.0 (digits_more ds b parts.1 low high)

pub value_more : (n : ℕ) (ds : List ℕ) (b : ℕ) → value_after n (ds ++ b ∷ []) ≡ 10 * value_after n ds + (b - 48)
value_more n [] b = refl
value_more n (d ∷ ds) b = value_more (10 * n + (d - 48)) ds b

-- a byte that isn't a digit, at any index
pub broken_at : (ds : List ℕ) (k : ℕ) → k < length ds → is_digit (get_or ds k 0) ≡ false → all_digits ds ≡ false
broken_at [] k lt none = absurd (omega arith)
broken_at (d ∷ ds) zero lt none = and_left (is_digit d) (all_digits ds) none
broken_at (d ∷ ds) (suc k) lt none = and_right (is_digit d) (all_digits ds) (broken_at ds k (omega arith) none)

-- what is kept of a number, with one more digit
pub capped_more : (kept : ℕ) (ds : List ℕ) (b first : ℕ) → IsCapped kept (value_after first ds) → kept ≤ max_variable
    → IsCapped (10 * kept + (b - 48)) (value_after first (ds ++ b ∷ []))
capped_more kept ds b first capped few =
    inl (ap (λ (m : ℕ). 10 * m + (b - 48)) (⊎_elim (λ e. e) (λ large. absurd (omega (arith, large.0, few))) capped)
    ∙ sym (value_more first ds b))

-- beyond every variable nothing more is kept
pub capped_stays : (kept : ℕ) (ds : List ℕ) (b first : ℕ) → IsCapped kept (value_after first ds) → max_variable < kept
    → IsCapped kept (value_after first (ds ++ b ∷ []))
capped_stays kept ds b first capped large =
    let more = value_more first ds b in
    inr (large, ⊎_elim (λ e. omega (arith, e, more, large)) (λ both. omega (arith, both.1, more)) capped)

-- a numeral, from its first digit and the others
pub numeral_is : (text : List ℕ) (b : ℕ) (bs : List ℕ) → text ≡ b ∷ bs → 49 ≤ b → b ≤ 57 → all_digits bs ≡ true → is_numeral text ≡ true
numeral_is text b bs whole low high digits = rw (whole, le-leb 49 b low, le-leb b 57 high) digits

pub no_numeral-first : (text : List ℕ) (b : ℕ) (bs : List ℕ) → text ≡ b ∷ bs → (b < 49) ⊎ (57 < b) → is_numeral text ≡ false
no_numeral-first text b bs whole h =
    ap is_numeral whole
    ∙ and_left (leb 49 b && leb b 57) (all_digits bs)
    (⊎_elim (λ low. and_left (leb 49 b) (leb b 57) (lt-leb 49 b low)) (λ high. and_right (leb 49 b) (leb b 57) (lt-leb b 57 high)) h)

pub no_numeral-later : (text : List ℕ) (b : ℕ) (bs : List ℕ) (k : ℕ) → text ≡ b ∷ bs → k < length bs
    → (get_or bs k 0 < 48) ⊎ (57 < get_or bs k 0) → is_numeral text ≡ false
no_numeral-later text b bs k whole lt h =
    let d = get_or bs k 0 in
    let none : is_digit d ≡ false =
    ⊎_elim (λ low. and_left (leb 48 d) (leb d 57) (lt-leb 48 d low)) (λ high. and_right (leb 48 d) (leb d 57) (lt-leb d 57 high)) h in
    ap is_numeral whole ∙ and_right (leb 49 b && leb b 57) (all_digits bs) (broken_at bs k lt none)

pub no_numeral-nil : (text : List ℕ) → length text ≡ 0 → is_numeral text ≡ false
no_numeral-nil [] none = refl
no_numeral-nil (b ∷ bs) none = absurd (omega (arith, none))

-- the numbers of tokens

pub zero_number : (token : List ℕ) → token ≡ codes "0" → number_of token ≡ Some (pos 0)
unfolding number_of
zero_number token e = rw e refl

pub negative_number : (token digits : List ℕ) → token ≡ 45 ∷ digits → is_numeral digits ≡ true
    → number_of token ≡ Some (neg_ℤ (pos (value digits)))
unfolding number_of
negative_number token [] e h = absurd (false≢true h)
negative_number token (d ∷ ds) e h = rw (e, h) refl

pub negative_none : (token digits : List ℕ) → token ≡ 45 ∷ digits → is_numeral digits ≡ false → number_of token ≡ None
unfolding number_of
negative_none token [] e h = rw e refl
negative_none token (d ∷ ds) e h = rw (e, h) refl

first_high : (b : ℕ) (bs : List ℕ) → is_numeral (b ∷ bs) ≡ true → 49 ≤ b
first_high b bs h = leb-true 49 b (and_parts (leb 49 b) (leb b 57) (and_parts (leb 49 b && leb b 57) (all_digits bs) h).0).0

pub plain_number : (token : List ℕ) → is_numeral token ≡ true → number_of token ≡ Some (pos (value token))
unfolding number_of
plain_number [] h = absurd (false≢true h)
plain_number (b ∷ []) h =
    let high = first_high b [] h in
    let no : (b == 48) ≡ false = ne_eqb b 48 (λ e. omega (arith, high, e)) in
    rw (no, h) refl
plain_number (b ∷ d ∷ bs) h = rw h refl

-- the token begins with a byte other than a minus sign, or is empty
abbrev pub BeginsPlain : List ℕ → Type 0
BeginsPlain token = ((b : ℕ) × (bs : List ℕ) × (token ≡ b ∷ bs) × (b ≡ 45 → ⊥)) ⊎ (length token ≡ 0)

no_sign : (b : ℕ) (bs : List ℕ) → BeginsPlain (b ∷ bs) → (b == 45) ≡ false
no_sign b bs (inl h) =
    let same : b ≡ h.0 = cc (h.2) in
    ne_eqb b 45 (λ e. h.3 (sym same ∙ e))
no_sign b bs (inr none) = absurd (omega (arith, none))

pub plain_none : (token : List ℕ) → (token ≡ codes "0" → ⊥) → BeginsPlain token → is_numeral token ≡ false → number_of token ≡ None
unfolding number_of
plain_none [] other begins h = refl
plain_none (b ∷ []) other begins h =
    let no : (b == 48) ≡ false = ne_eqb b 48 (λ e. other (ap (λ (x : ℕ). x ∷ []) e)) in
    let sign = no_sign b [] begins in
    rw (no, h, sign) refl
plain_none (b ∷ d ∷ bs) other begins h =
    let sign = no_sign b (d ∷ bs) begins in
    rw (h, sign) refl
