-- A number in decimal before a character that isn't a digit, and the text of sizes.
use Rattle.std.proofs.Common.{◌≡◌, ◌∙◌, refl, sym, ap, subst, arith, ℕ, zero, suc, ◌^◌, ◌<◌, List, [], ◌∷◌, ◌++◌, length, get_or}
use Rattle.std.proofs.Common.{Option, Some, None, Result, Ok, Err, MatchOption, Bor, append_assoc}
use Rattle.std.specs.Result.{result_ok}
use Rattle.std.specs.Str.{IsAscii, IsUtf8}
use Rattle.std.proofs.lemmas.Str.{IsAscii-append, IsUtf8-from_ascii}
use Rattle.std.proofs.lemmas.Str.Ascii.{IsAscii-nil}
use Rattle.std.specs.Fmt.{decimal}
use Rattle.std.specs.Str.Parse.{AllDigits, ParsesUnsigned, digits_value}
use Rattle.std.proofs.lemmas.Fmt.{IsAscii-decimal, decimal-digits_value, decimal_digit, decimal_nonempty, digits_decimal}
use Rattle.std.proofs.lemmas.Fmt.{first_decimal, parse-decimal}
use Rattle.std.proofs.lemmas.Str.Parse.{IsNumeralModel, digit_at, not_in_digits, numerals_by_value, parse_plain, tells_digits}
use Rattle.std.proofs.lemmas.Str.Pattern.{IsSplitOnceResult, split_after, split_parts}
use Rattle.command_line.specs.Sizes.{AreWithinSizes, IsSizesText, sizes_text}
use Rattle.command_line.specs.internal.Numbers.{BeginsAsNumber, IsNumberBefore}
use Rattle.command_line.specs.declared.sizes.Sizes.{Sizes}

own : IsNumeralModel (AllDigits 10) (digits_value 10)
own = numerals_by_value _ tells_digits

-- the two parts that `split_once` gives
pub splits : (text : List ℕ) (end : ℕ) (r : Option (Bor (List ℕ) × Bor (List ℕ))) → IsSplitOnceResult end text r → end < 48
    → MatchOption r (Unit {0}) (λ x. text ≡ x.0.now ++ end ∷ x.1.now)
splits text end None split low = tt
splits text end (Some x) split low = (split_parts end text (Some x) split (omega arith)).0

-- what `split_once` gives for a number before `end`
pub number_splits : (text : List ℕ) (end number : ℕ) (rest : List ℕ) (r : Option (Bor (List ℕ) × Bor (List ℕ)))
    → IsSplitOnceResult end text r → end < 48 → IsNumberBefore text end number rest
    → MatchOption r ⊥ (λ x. (x.0.now ≡ decimal number) × (x.1.now ≡ rest))
number_splits text end number rest r split low is =
    split_after end text (decimal number) rest r split (omega arith) is.parts
    (not_in_digits own (decimal number) end (digits_decimal own number is.small) (λ range. omega (arith, range)))

-- `BeginsAsNumber` holds for a number in decimal
pub decimal_begins : (number : ℕ) → number < 2 ^ 64 → BeginsAsNumber (decimal number)
decimal_begins number small = record {
  some = decimal_nonempty number small;
  digit = digit_at (decimal number) 0 (digits_decimal own number small) (decimal_nonempty number small);
  alone = alone number small;
}
  where
    alone : (n : ℕ) → n < 2 ^ 64 → get_or (decimal n) 0 0 ≡ 48 → length (decimal n) ≡ 1
    alone zero small zero_first = ap length (decimal_digit 0 (omega arith))
    alone (suc n) small zero_first = absurd (omega (arith, first_decimal (suc n) (omega arith) small))

-- a text for which `BeginsAsNumber` holds, and that is read as a number, is that number in decimal
pub decimal_read : (E : Type 0) (text : List ℕ) (number : ℕ) (r : Result ℕ E) → BeginsAsNumber text → ParsesUnsigned 64 10 text r
    → Some number ≡ result_ok r → (text ≡ decimal number) × (number < 2 ^ 64)
decimal_read E text number (Err e) begins parses is = cc
decimal_read E text number (Ok n) begins parses is =
    let read = parse_plain own {E = E} 64 text (Ok n) parses (λ plus. omega (arith, begins.digit)) in
    let same : n ≡ number = cc in
    let written : decimal (digits_value 10 text) ≡ text = decimal-digits_value own text read.0.0 read.0.1 begins.alone read.0.2 in
    (sym written ∙ ap decimal (sym read.1 ∙ same), omega (arith, read.1, read.0.2))

-- a number in decimal is read as that number
pub number_read : (E : Type 0) (text : List ℕ) (number : ℕ) (r : Result ℕ E) → number < 2 ^ 64 → text ≡ decimal number
    → ParsesUnsigned 64 10 text r → result_ok r ≡ Some number
number_read E text number r small is parses = ap result_ok (parse-decimal 64 number text r small small is parses)

-- ---- the text of sizes

-- what comes after the first space, and after the second
abbrev pub after_streams : Sizes → List ℕ
after_streams sizes = decimal sizes.lines ++ 32 ∷ (decimal sizes.room ++ 10 ∷ [])

abbrev pub after_lines : Sizes → List ℕ
after_lines sizes = decimal sizes.room ++ 10 ∷ []

-- a text of sizes is three numbers: a space follows each of the first two, and LF the third
pub record HasThreeNumbers (bytes : List ℕ) (sizes : Sizes) : Type 0 where
  pub streams : IsNumberBefore bytes 32 sizes.streams (after_streams sizes)
  pub lines : IsNumberBefore (after_streams sizes) 32 sizes.lines (after_lines sizes)
  pub room : IsNumberBefore (after_lines sizes) 10 sizes.room []

text_parts : (sizes : Sizes) → sizes_text sizes ≡ decimal sizes.streams ++ 32 ∷ after_streams sizes
text_parts sizes = simp append_assoc

pub three_numbers : (bytes : List ℕ) (sizes : Sizes) → IsSizesText bytes sizes → HasThreeNumbers bytes sizes
three_numbers bytes sizes is = record {
  streams = record { parts = is.text ∙ text_parts sizes; small = omega (arith, is.within.few_streams) };
  lines = record { parts = refl; small = omega (arith, is.within.few_lines) };
  room = record { parts = refl; small = omega (arith, is.within.small_room) };
}

-- a number, an ASCII character and an ASCII text together are ASCII
ascii : (number end : ℕ) (rest : List ℕ) → number < 2 ^ 64 → end < 128 → IsAscii rest → IsAscii (decimal number ++ end ∷ rest)
ascii number end rest small low tail = IsAscii-append (decimal number) (end ∷ rest) (IsAscii-decimal number small) after
  where
    after : IsAscii (end ∷ rest)
    after zero = low
    after (suc i) = tail i

pub sizes_utf8 : (bytes : List ℕ) (sizes : Sizes) → IsSizesText bytes sizes → IsUtf8 bytes
sizes_utf8 bytes sizes is =
    let numbers = three_numbers bytes sizes is in
    let room = ascii sizes.room 10 [] numbers.room.small (omega arith) IsAscii-nil in
    let lines = ascii sizes.lines 32 (after_lines sizes) numbers.lines.small (omega arith) room in
    let all = ascii sizes.streams 32 (after_streams sizes) numbers.streams.small (omega arith) lines in
    IsUtf8-from_ascii bytes (subst IsAscii (sym numbers.streams.parts) all)

-- if these numbers equal the sizes of a text, they are in their ranges
pub same_sizes : (bytes : List ℕ) (sizes : Sizes) (streams lines room : ℕ) → IsSizesText bytes sizes
    → streams ≡ sizes.streams → lines ≡ sizes.lines → room ≡ sizes.room
    → AreWithinSizes (record { streams = streams; lines = lines; room = room })
same_sizes bytes sizes streams lines room is one two three = record {
  some_streams = omega (arith, one, is.within.some_streams);
  few_streams = omega (arith, one, is.within.few_streams);
  few_lines = omega (arith, two, is.within.few_lines);
  small_room = omega (arith, three, is.within.small_room);
}

-- `IsNumberBefore` holds for an equal text, too
pub along : {one two : List ℕ} (end number : ℕ) (rest : List ℕ) → one ≡ two → IsNumberBefore two end number rest
    → IsNumberBefore one end number rest
along end number rest same is = subst (λ (text : List ℕ). IsNumberBefore text end number rest) (sym same) is
