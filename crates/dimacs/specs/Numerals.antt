-- Numbers as DIMACS CNF writes them (the exact spelling is this project's own: no plus sign, no
-- leading zero).
use Rattle.std.specs.Prelude.{ℕ, ◌+◌, ◌-◌, ◌*◌, Bool, true, false, ◌&&◌, ◌||◌, ◌==◌, nat_le, List, [], ◌∷◌, ℤ, pos, neg_ℤ, Option, Some, None, if◌then◌else◌}

-- a byte `0` to `9`
abbrev pub is_digit : ℕ → Bool
is_digit byte = nat_le 48 byte && nat_le byte 57

-- only digits, or nothing
abbrev pub all_digits : List ℕ → Bool
all_digits [] = true
all_digits (byte ∷ bytes) = is_digit byte && all_digits bytes

-- the number that these digits spell when they follow the digits of another number
abbrev pub value_after : ℕ → List ℕ → ℕ
value_after number [] = number
value_after number (byte ∷ bytes) = value_after (10 * number + (byte - 48)) bytes

-- the number that digits spell, in decimal
abbrev pub value : List ℕ → ℕ
value text = value_after 0 text

-- digits, the first of which is 1 to 9
abbrev pub is_numeral : List ℕ → Bool
is_numeral [] = false
is_numeral (byte ∷ bytes) = nat_le 49 byte && nat_le byte 57 && all_digits bytes

-- the single digit 0
abbrev pub is_zero : List ℕ → Bool
is_zero [] = false
is_zero (byte ∷ []) = byte == 48
is_zero (byte ∷ next ∷ bytes) = false

-- the spelling of the header's two counts
abbrev pub is_count : List ℕ → Bool
is_count text = is_zero text || is_numeral text

-- the number that a minus sign and a numeral spell; `None` for another spelling, such as `-0`
abbrev pub negative_of : List ℕ → Option ℤ
negative_of [] = None
negative_of (byte ∷ digits) =
    if byte == 45 && is_numeral digits then Some (neg_ℤ (pos (value digits))) else None

-- the number that a token of a clause spells; `None` if the token can't occur in a clause
unfoldable pub number_of : List ℕ → Option ℤ
number_of text =
    if is_zero text then Some (pos 0)
    else (if is_numeral text then Some (pos (value text)) else negative_of text)
