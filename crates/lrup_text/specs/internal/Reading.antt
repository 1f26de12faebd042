-- The part of a line that has been read, and the effect of a byte.
use Rattle.std.specs.Prelude.{◌≡◌, ℕ, ◌<◌, ◌≤◌, ◌^◌, ℤ, Bool, true, false, List, [], ◌∷◌, ◌++◌, length, take}
use Rattle.std.specs.Fmt.{decimal, signed_decimal}
use Rattle.std.specs.List.{AllByRecursion, flat_map}
use Rattle.std.specs.Prelude.{Option, Some, None, Ok, Err}
use Rattle.lrup_text.specs.declared.partial_line.ParserState.{ParserState}
use Rattle.lrup_text.specs.declared.partial_line.ParserState.TheVariants as states
use Rattle.lrup_text.specs.declared.partial_line.ByteStep.{ByteStep}
use Rattle.lrup_text.specs.declared.partial_line.ByteStep.TheVariants.{More, Done, Refused}
use Rattle.lrup_text.specs.declared.partial_line.PartialLine.{PartialLine}
use Rattle.lrup_text.specs.Writing.{space}
use Rattle.lrup_text.specs.internal.ByteNames.{minus, zero_digit, letter_d, letter_i}
use Rattle.lrup_text.specs.Faults.{IsRefused}
use Rattle.lrup_text.specs.Lines.{StreamLine, Addition, Deletion, Import, LineText, IsStreamNumber, IsStreamLiteral}
use Rattle.lrup_text.specs.internal.Rests.{Spot, AtStart, InLead, AfterImport, BeforeLiteral, AfterMinus, InLiteral, BeforeList}
use Rattle.lrup_text.specs.internal.Rests.{BeforeItem, InItem, AtEnd, Tracks}
use Rattle.lrup_text.specs.declared.LineFault.{LineFault}
use Rattle.lrup_text.specs.Feeding.{ReaderState}

-- the literals, and the hints or identities, read so far
abbrev pub literals_read : PartialLine → List ℤ
literals_read partial = take partial.literal_count partial.literals.items

abbrev pub identities_read : PartialLine → List ℕ
identities_read partial = take partial.identity_count partial.identities.items

-- a line from its parts
abbrev pub line_of_parts : (imports deletes : Bool) → ℕ → List ℤ → List ℕ → StreamLine
line_of_parts true deletes lead lits ids = Import lead lits
line_of_parts false true lead lits ids = Deletion lead ids
line_of_parts false false lead lits ids = Addition lead lits ids

-- the line that has been read
abbrev pub line_so_far : PartialLine → StreamLine
line_so_far partial =
    line_of_parts partial.imports partial.deletes partial.lead (literals_read partial)
    (identities_read partial)

-- words, with a space after each
unfoldable pub words_text : {A : Type 0} → (A → List ℕ) → List A → List ℕ
words_text spell words = flat_map (λ word. spell word ++ space ∷ []) words

abbrev pub literals_text : List ℤ → List ℕ
literals_text lits = words_text signed_decimal lits

abbrev pub numbers_text : List ℕ → List ℕ
numbers_text numbers = words_text decimal numbers

-- the text before further literals; before the list; before further items of the list
abbrev pub clause_front : (imports : Bool) → ℕ → List ℤ → List ℕ
clause_front true lead lits = decimal lead ++ space ∷ letter_i ∷ space ∷ literals_text lits
clause_front false lead lits = decimal lead ++ space ∷ literals_text lits

abbrev pub list_front : Bool → ℕ → List ℤ → List ℕ
list_front true lead lits = decimal lead ++ space ∷ letter_d ∷ []
list_front false lead lits = clause_front false lead lits ++ zero_digit ∷ []

abbrev pub item_front : PartialLine → List ℕ
item_front partial =
    list_front partial.deletes partial.lead (literals_read partial)
    ++ space ∷ numbers_text (identities_read partial)

-- the text of a line before its LF
abbrev pub end_front : (imports deletes : Bool) → ℕ → List ℤ → List ℕ → List ℕ
end_front true deletes lead lits ids = clause_front true lead lits ++ zero_digit ∷ []
end_front false deletes lead lits ids =
    (list_front deletes lead lits ++ space ∷ numbers_text ids) ++ zero_digit ∷ []

-- the part of a literal that has been read
abbrev pub literal_front : Bool → ℕ → List ℕ
literal_front true number = minus ∷ decimal number
literal_front false number = decimal number

-- the bytes of the line that have been read
unfoldable pub pending_at : ParserState → PartialLine → List ℕ
pending_at states.Start partial = []
pending_at states.Lead partial = decimal partial.number
pending_at states.Import partial = decimal partial.lead ++ space ∷ letter_i ∷ []
pending_at states.Body partial = clause_front partial.imports partial.lead (literals_read partial)
pending_at states.Minus partial =
    clause_front partial.imports partial.lead (literals_read partial) ++ minus ∷ []
pending_at states.Literal partial =
    clause_front partial.imports partial.lead (literals_read partial)
    ++ literal_front partial.negative partial.number
pending_at states.List partial = list_front partial.deletes partial.lead (literals_read partial)
pending_at states.Item partial = item_front partial
pending_at states.Number partial = item_front partial ++ decimal partial.number
pending_at states.LineEnd partial =
    end_front partial.imports partial.deletes partial.lead (literals_read partial)
    (identities_read partial)

abbrev pub pending : PartialLine → List ℕ
pending partial = pending_at partial.state partial

-- the spot in the line for this state
unfoldable pub spot_at : ParserState → PartialLine → Spot
spot_at states.Start partial = AtStart
spot_at states.Lead partial = InLead partial.digits
spot_at states.Import partial = AfterImport
spot_at states.Body partial = BeforeLiteral partial.imports partial.literal_count
spot_at states.Minus partial = AfterMinus partial.imports partial.literal_count
spot_at states.Literal partial = InLiteral partial.imports partial.digits partial.literal_count
spot_at states.List partial = BeforeList partial.deletes
spot_at states.Item partial = BeforeItem partial.deletes partial.identity_count
spot_at states.Number partial = InItem partial.deletes partial.digits partial.identity_count
spot_at states.LineEnd partial = AtEnd

-- what a state requires of the counts and of the line's kind
unfoldable pub IsRoomy : ParserState → PartialLine → Type 0
IsRoomy states.Import partial =
    (partial.identity_count ≡ 0) × (partial.literal_count ≡ 0) × (partial.imports ≡ true)
IsRoomy states.Body partial = partial.identity_count ≡ 0
IsRoomy states.Minus partial = (partial.identity_count ≡ 0) × (partial.literal_count < 65535)
IsRoomy states.Literal partial = (partial.identity_count ≡ 0) × (partial.literal_count < 65535)
IsRoomy states.List partial = (partial.identity_count ≡ 0) × (partial.imports ≡ false)
IsRoomy states.Item partial = partial.imports ≡ false
IsRoomy states.Number partial = (partial.identity_count < 65536) × (partial.imports ≡ false)
IsRoomy _ partial = Unit {0}

-- the buffers have room for all that a line may have
pub record HasRoom (lits : List ℤ) (ids : List ℕ) : Type 0 where
  pub literals : length lits ≡ 65535
  pub identities : length ids ≡ 65536

-- a line can have this first number, and the literals and identities at the front of the buffers
pub record CanOccurInLine (first : ℕ) (lits : List ℤ) (literal_count : ℕ) (ids : List ℕ)
    (identity_count : ℕ) : Type 0 where
  pub lead : IsStreamNumber first
  pub few_literals : literal_count ≤ 65535
  pub few_identities : identity_count ≤ 65536
  pub literals : AllByRecursion IsStreamLiteral (take literal_count lits)
  pub identities : AllByRecursion IsStreamNumber (take identity_count ids)

-- a number of this many digits
pub record FitsDigits (number digits : ℕ) : Type 0 where
  pub low : 0 < number
  pub high : number < 10 ^ digits
  pub few : digits ≤ 18

-- the invariant between two bytes
pub record IsPartialLine (partial : PartialLine) : Type 0 where
  pub room : HasRoom partial.literals.items partial.identities.items
  pub kept : CanOccurInLine partial.lead partial.literals.items partial.literal_count
      partial.identities.items partial.identity_count
  pub number : FitsDigits partial.number partial.digits
  pub roomy : IsRoomy partial.state partial
  pub tracks : Tracks (pending partial) (spot_at partial.state partial)

-- The effect of a byte: the line continues; or it is complete, and the next may begin; or no line
-- begins like this.
abbrev pub ReadsByte : PartialLine → ℕ → ByteStep → PartialLine → Type 0
ReadsByte old byte More new = IsPartialLine new × (pending new ≡ pending old ++ byte ∷ [])
ReadsByte old byte Done new =
    IsPartialLine new × (pending new ≡ []) × LineText (line_so_far new) (pending old ++ byte ∷ [])
ReadsByte old byte (Refused fault) new = IsRefused (pending old ++ byte ∷ []) fault

-- This many bytes of a piece were read, and the line continues.
pub record ReadsAhead (old : PartialLine) (piece : List ℕ) (used : ℕ)
    (new : PartialLine) : Type 0 where
  pub bound : used ≤ length piece
  pub reads : IsPartialLine new
  pub is : pending new ≡ pending old ++ take used piece

-- The effect of the bytes of a piece, of which this many were used.
abbrev pub StepsThrough : PartialLine → List ℕ → ℕ → ByteStep → PartialLine → Type 0
StepsThrough old piece used More new =
    (used ≡ length piece) × IsPartialLine new × (pending new ≡ pending old ++ piece)
StepsThrough old piece used Done new =
    (0 < used) × (used ≤ length piece) × IsPartialLine new × (pending new ≡ [])
    × LineText (line_so_far new) (pending old ++ take used piece)
StepsThrough old piece used (Refused fault) new =
    (0 < used) × (used ≤ length piece) × IsRefused (pending old ++ take used piece) fault

-- the reader's state: this fault, if there is one, or else this text
abbrev pub reader_state : Option LineFault → List ℕ → ReaderState
reader_state None read = Ok read
reader_state (Some fault) read = Err fault
