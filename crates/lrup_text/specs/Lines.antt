-- The lines of a stream, their texts, and how a stream is cut into them (this project's own).
use Rattle.std.specs.Prelude.{◌≡◌, ℕ, ◌<◌, ◌^◌, ℤ, unsigned_abs, List, ◌++◌, map}
use Rattle.std.specs.Fmt.{decimal, signed_decimal}
use Rattle.std.specs.List.{AllByRecursion, flat_map}
use Rattle.lrup_text.specs.Grammar.{Words, Adds, Deletes, Imports, text, AreFew, Begins}
use Rattle.lrup_text.specs.declared.Line.{Line}
use Rattle.lrup_text.specs.declared.Line.TheVariants as kinds

-- a line, independent of where its lists are in memory
pub data StreamLine : Type 0 where
  Addition : (id : ℕ) (lits : List ℤ) (hints : List ℕ) → StreamLine
  Deletion : (lead : ℕ) (ids : List ℕ) → StreamLine
  Import : (id : ℕ) (lits : List ℤ) → StreamLine

-- the line that a `Line` represents
abbrev pub line_of : Line → StreamLine
line_of (kinds.Add id lits hints) = Addition id lits.now hints.now
line_of (kinds.Delete lead ids) = Deletion lead ids.now
line_of (kinds.Import id lits) = Import id lits.now

-- the words that spell a line, each number in decimal
abbrev pub words_of : StreamLine → Words
words_of (Addition id lits hints) = Adds (decimal id) (map signed_decimal lits) (map decimal hints)
words_of (Deletion lead ids) = Deletes (decimal lead) (map decimal ids)
words_of (Import id lits) = Imports (decimal id) (map signed_decimal lits)

-- a number of 1 to 18 digits that isn't 0
abbrev pub IsStreamNumber : ℕ → Type 0
IsStreamNumber number = (0 < number) × (number < 10 ^ 18)

-- a literal whose magnitude is a stream number
abbrev pub IsStreamLiteral : ℤ → Type 0
IsStreamLiteral literal = IsStreamNumber (unsigned_abs literal)

-- the line has a text within the limits of a stream
abbrev pub IsWithinLimits : StreamLine → Type 0
IsWithinLimits (Addition id lits hints) =
    IsStreamNumber id × AreFew 65535 IsStreamLiteral lits × AreFew 65536 IsStreamNumber hints
IsWithinLimits (Deletion lead ids) = IsStreamNumber lead × AreFew 65536 IsStreamNumber ids
IsWithinLimits (Import id lits) = IsStreamNumber id × AreFew 65535 IsStreamLiteral lits

-- the bytes that spell a line, with its LF
abbrev pub line_text : StreamLine → List ℕ
line_text line = text (words_of line)

-- the bytes are the text of the line
abbrev pub LineText : StreamLine → List ℕ → Type 0
LineText line bytes = IsWithinLimits line × (bytes ≡ line_text line)

-- no line's text is a prefix of the bytes
abbrev pub HasNoLine : List ℕ → Type 0
HasNoLine bytes =
    (line : StreamLine) (more : List ℕ) → IsWithinLimits line → ¬ (bytes ≡ line_text line ++ more)

-- the stream is the texts of the lines, followed by a rest that doesn't begin with a whole line
pub record Cut (stream : List ℕ) (lines : List StreamLine) (rest : List ℕ) : Type 0 where
  pub bytes : stream ≡ flat_map line_text lines ++ rest
  pub each : AllByRecursion IsWithinLimits lines
  pub last : HasNoLine rest

-- what a reader may hold of an unfinished line: a prefix of a line that contains no whole line
pub record IsPending (bytes : List ℕ) : Type 0 where
  pub begins : Begins bytes
  pub whole : HasNoLine bytes
