-- The decimal text of a number of at most 18 digits.
use Rattle.std.proofs.Common.{◌≡◌, ℕ, ◌+◌, ◌-◌, ◌*◌, ◌/◌, ◌%◌, ◌^◌, ◌<◌, ◌≤◌, List, [], ◌∷◌, ◌++◌, length, get_or, map, sym, ◌∙◌, ap, subst}
use Rattle.std.proofs.Common.{arith}
use Rattle.std.specs.Fmt.{decimal}
use Rattle.std.specs.Int.Digits.{digits_of}
use Rattle.std.specs.List.{AllByRecursion}
use Rattle.std.proofs.lemmas.Fmt.{decimal-digits_of, decimal_digit}
use Rattle.std.proofs.lemmas.Int.Digits.{digits_of_step, length-digits_of-le, all_below_base_digits_of, first_digits_of}
use Rattle.std.proofs.lemmas.Grind.{pow_more}
use Rattle.std.proofs.Math.Nat.{pow-le-pow_right}
use Rattle.std.proofs.lemmas.List.{map-append, length-map}
use Rattle.lrup_text.specs.Grammar.{IsDigit, SpellsNumber}

-- one more digit of a number appends its byte to the decimal text
pub decimal_more : (n d : ℕ) → 0 < n → d < 10 → n * 10 + d < 2 ^ 64 → decimal (n * 10 + d) ≡ decimal n ++ (48 + d) ∷ []
decimal_more n d some digit fits =
    let quotient : (n * 10 + d) / 10 ≡ n = omega arith in
    let remainder : (n * 10 + d) % 10 ≡ d = omega arith in
    let step : digits_of 10 (n * 10 + d) ≡ digits_of 10 ((n * 10 + d) / 10) ++ ((n * 10 + d) % 10) ∷ [] =
    digits_of_step 10 (n * 10 + d) (omega arith) (omega arith) in
    let step' : digits_of 10 (n * 10 + d) ≡ digits_of 10 n ++ d ∷ [] = step ∙ ap (λ q. digits_of 10 q ++ ((n * 10 + d) % 10) ∷ []) quotient
    ∙ ap (λ r. digits_of 10 n ++ r ∷ []) remainder in
    decimal-digits_of (n * 10 + d) (omega arith) fits ∙ ap (map (λ x. 48 + x)) step' ∙ map-append (λ x. 48 + x) (digits_of 10 n) (d ∷ [])
    ∙ ap (λ t. t ++ (48 + d) ∷ []) (sym (decimal-digits_of n some (omega arith)))

pub decimal_one : (b : ℕ) → IsDigit b → decimal (b - 48) ≡ b ∷ []
decimal_one b digit =
    let is : 48 + (b - 48) ≡ b = omega arith in
    decimal_digit (b - 48) (omega arith) ∙ ap (λ x. x ∷ []) is

pub decimal_byte : (n b : ℕ) → 0 < n → n < 10 ^ 18 → IsDigit b → n * 10 + (b - 48) < 2 ^ 64
    → decimal (n * 10 + (b - 48)) ≡ decimal n ++ b ∷ []
decimal_byte n b some few digit fits =
    let is : 48 + (b - 48) ≡ b = omega arith in
    decimal_more n (b - 48) some (omega arith) fits ∙ ap (λ x. decimal n ++ x ∷ []) is

-- a number with one more digit is below the next power of 10
pub power_more : (k n d : ℕ) → n < 10 ^ k → d < 10 → n * 10 + d < 10 ^ (k + 1)
power_more k n d small digit =
    let more : 10 ^ (k + 1) ≡ 10 ^ k * 10 = pow_more 10 k in
    omega arith

pub power_below : (k : ℕ) → k ≤ 18 → 10 ^ k ≤ 10 ^ 18
power_below k few = pow-le-pow_right (omega arith) few

all_digits : (ds : List ℕ) → AllByRecursion (λ d. d < 10) ds → AllByRecursion IsDigit (map (λ x. 48 + x) ds)
all_digits [] h = tt
all_digits (d ∷ ds) h = ((omega (arith, h.0), omega (arith, h.0)), all_digits ds h.1)

digits_word : (ds : List ℕ) → AllByRecursion (λ d. d < 10) ds → 0 < get_or ds 0 0 → length ds ≤ 18 → SpellsNumber 18 (map (λ x. 48 + x) ds)
digits_word [] h some few = let none : 0 < 0 = some in absurd (omega arith)
digits_word (d ∷ ds) h some few =
    let first : 0 < d = some in
    (omega arith, omega (arith, h.0), all_digits ds h.1, omega (arith, length-map ds (λ x. 48 + x)))

-- the decimal text of a number spells the number
pub number_word : (n : ℕ) → 0 < n → n < 10 ^ 18 → SpellsNumber 18 (decimal n)
number_word n some few =
    subst (SpellsNumber 18) (sym (decimal-digits_of n some (omega arith)))
    (digits_word (digits_of 10 n) (all_below_base_digits_of 10 n (omega arith)) (first_digits_of 10 n (omega arith) some)
    (length-digits_of-le 10 18 n (omega arith) few))
