-- A file of DIMACS CNF, cut into lines and tokens (DIMACS CNF; the exact spelling is this project's
-- own).
use Rattle.std.specs.Prelude.{ℕ, ◌+◌, Bool, true, false, not, ◌||◌, ◌==◌, List, [], ◌∷◌, map, filter, flat_map, if◌then◌else◌}
use Rattle.std.specs.List.{slice_split}

-- LF
abbrev pub ends_line : ℕ → Bool
ends_line byte = byte == 10

-- space, tab, CR or LF
abbrev pub is_separator : ℕ → Bool
is_separator byte = byte == 32 || byte == 9 || byte == 13 || byte == 10

-- an empty list
abbrev pub is_empty : {X : Type 0} → List X → Bool
is_empty [] = true
is_empty (x ∷ xs) = false

-- the maximal runs of bytes that aren't separators
abbrev pub runs : List ℕ → List (List ℕ)
runs line = filter (λ run. not (is_empty run)) (slice_split is_separator line)

-- the first byte is `c`
abbrev pub is_comment : List ℕ → Bool
is_comment [] = false
is_comment (byte ∷ bytes) = byte == 99

-- The tokens of each line that isn't a comment and has a token; a line ends at LF.
abbrev pub token_lines : List ℕ → List (List (List ℕ))
token_lines bytes =
    filter (λ tokens. not (is_empty tokens))
    (map runs (filter (λ line. not (is_comment line)) (slice_split (λ byte. byte == 10) bytes)))

-- a line with its number and its tokens
pub record Line : Type 0 where
  pub number : ℕ
  pub tokens : List (List ℕ)

-- the lines that aren't comments and have a token; the first of all lines has this number
abbrev pub lines_from : ℕ → List (List ℕ) → List Line
lines_from number [] = []
lines_from number (line ∷ lines) =
    if is_comment line || is_empty (runs line) then lines_from (number + 1) lines
    else record { number = number; tokens = runs line } ∷ lines_from (number + 1) lines

-- the lines of a whole file that aren't comments and have a token
abbrev pub lines_of : List ℕ → List Line
lines_of bytes = lines_from 1 (slice_split ends_line bytes)

-- a token with the number of its line
pub record Token : Type 0 where
  pub line : ℕ
  pub text : List ℕ

-- the tokens of a line, each with the line's number
abbrev pub tokens_of : Line → List Token
tokens_of line = map (λ text. record { line = line.number; text = text }) line.tokens

-- the tokens of lines, in order
abbrev pub all_tokens : List Line → List Token
all_tokens lines = flat_map tokens_of lines
