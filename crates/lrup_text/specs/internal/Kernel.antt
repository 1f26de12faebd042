-- A whole line in a slice, read at once.
use Rattle.std.specs.Prelude.{◌≡◌, ℕ, ◌-◌, ◌<◌, ◌≤◌, ℤ, List, [], ◌∷◌, ◌++◌, length, take, slice_index}
use Rattle.std.specs.Fmt.{decimal}
use Rattle.std.specs.List.{AllByRecursion}
use Rattle.lrup_text.specs.declared.kernel.Whole.{Whole}
use Rattle.lrup_text.specs.Writing.{space}
use Rattle.lrup_text.specs.internal.ByteNames.{zero_digit, line_feed}
use Rattle.lrup_text.specs.Lines.{LineText, IsStreamNumber}
use Rattle.lrup_text.specs.internal.Reading.{words_text, line_of_parts, CanOccurInLine}

-- the last byte is LF
abbrev pub EndsLine : List ℕ → Type 0
EndsLine line = (0 < length line) × (slice_index line (length line - 1) ≡ line_feed)

-- the last byte is a space or LF, so it isn't a byte of a word
abbrev pub EndsWord : List ℕ → Type 0
EndsWord text = (0 < length text) × (slice_index text (length text - 1) ≤ space)

-- The text has a word from index `start` up to `end`. `spell` gives the word's text, and `Fits`
-- says whether a line may have the word.
pub record ReadsWord {A : Type 0} (spell : A → List ℕ) (Fits : A → Type 0) (text : List ℕ)
    (start : ℕ) (word : A) (end : ℕ) : Type 0 where
  pub fits : Fits word
  pub after : start < end
  pub inside : end < length text
  pub is : take end text ≡ take start text ++ spell word

abbrev pub ReadsNumber : List ℕ → ℕ → ℕ → ℕ → Type 0
ReadsNumber = ReadsWord decimal IsStreamNumber

-- The text has words from index `start` up to `end`, with a space after each. The buffer has these
-- words, too, after `first` words that it already had.
pub record ReadsWords {A : Type 0} (spell : A → List ℕ) (Fits : A → Type 0) (text : List ℕ)
    (start : ℕ) (old : List A) (first : ℕ) (new : List A) (count end : ℕ) : Type 0 where
  pub more : List A
  pub few : count ≤ length new
  pub words : take count new ≡ take first old ++ more
  pub each : AllByRecursion Fits more
  pub inside : end ≤ length text
  pub is : take end text ≡ take start text ++ words_text spell more

-- from index `start`, the line is a space, this many words, and the end of the line
pub record ReadsList {A : Type 0} (spell : A → List ℕ) (Fits : A → Type 0) (line : List ℕ)
    (start : ℕ) (words : List A) (count : ℕ) : Type 0 where
  pub few : count ≤ length words
  pub each : AllByRecursion Fits (take count words)
  pub text : line ≡ (take start line ++ space ∷ words_text spell (take count words))
      ++ zero_digit ∷ line_feed ∷ []

-- the text spells the line with this first number and with the lists at the front of the buffers
pub record IsWhole (line : List ℕ) (lits : List ℤ) (ids : List ℕ) (whole : Whole) : Type 0 where
  pub kept : CanOccurInLine whole.lead lits whole.literal_count ids whole.identity_count
  pub text : LineText (line_of_parts whole.imports whole.deletes whole.lead
      (take whole.literal_count lits) (take whole.identity_count ids)) line
