-- Names for bytes of a line, for the contracts of the functions that read and write lines.
use Rattle.std.specs.Prelude.{ℕ}

-- the byte LF
abbrev pub line_feed : ℕ
line_feed = 10

-- the byte `-`
abbrev pub minus : ℕ
minus = 45

-- the byte `0`
abbrev pub zero_digit : ℕ
zero_digit = 48

-- the byte `d`
abbrev pub letter_d : ℕ
letter_d = 100

-- the byte `i`
abbrev pub letter_i : ℕ
letter_i = 105
