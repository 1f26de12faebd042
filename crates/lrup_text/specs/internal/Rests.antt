-- What may still follow a prefix of a line, in terms of the grammar. A spot says where the prefix
-- ends, with the counts that have limits: the digits of the current number, the literals, or the
-- items of a list.
use Rattle.std.specs.Prelude.{◌≡◌, ℕ, ◌+◌, ◌≤◌, ◌⊎◌, Bool, true, false, List, [], ◌∷◌, ◌++◌, length, MatchBool}
use Rattle.std.specs.List.{AllByRecursion}
use Rattle.lrup_text.specs.internal.ByteNames.{line_feed, letter_d, letter_i}
use Rattle.lrup_text.specs.Writing.{space}
use Rattle.lrup_text.specs.Grammar.{Limits, AreLifted, IsDigit, SpellsNumber, SpellsLiteral, SpellsHint, IsLine, list_text, clause_text}

pub data Spot : Type 0 where
  AtStart : Spot
  InLead : (digits : ℕ) → Spot
  AfterImport : Spot
  BeforeLiteral : (imports : Bool) (literals : ℕ) → Spot
  AfterMinus : (imports : Bool) (literals : ℕ) → Spot
  InLiteral : (imports : Bool) (digits literals : ℕ) → Spot
  BeforeList : (deletes : Bool) → Spot
  BeforeItem : (deletes : Bool) (items : ℕ) → Spot
  InItem : (deletes : Bool) (digits items : ℕ) → Spot
  AtEnd : Spot

-- an item of a list: an identity to delete, or a hint
abbrev pub SpellsItem : Limits → Bool → List ℕ → Type 0
SpellsItem limits deletes word =
    MatchBool deletes (SpellsNumber limits.digits word) (SpellsHint limits word)

-- the items after this many others, and the end of the line
pub record ListFollows (limits : Limits) (deletes : Bool) (items : ℕ) (rest : List ℕ) : Type 0 where
  pub words : List (List ℕ)
  pub count : items + length words ≤ limits.identities
  pub each : AllByRecursion (SpellsItem limits deletes) words
  pub is : rest ≡ list_text words

-- what comes after the 0 that ends the literals: the end of an import, or the hints
abbrev pub ClauseEnds : Limits → Bool → List ℕ → Type 0
ClauseEnds limits true rest = rest ≡ line_feed ∷ []
ClauseEnds limits false rest = ListFollows limits false 0 rest

-- the further literals of an import or addition that already has this many, and what comes after
-- them
pub record ClauseFollows (limits : Limits) (imports : Bool) (literals : ℕ)
    (rest : List ℕ) : Type 0 where
  pub words : List (List ℕ)
  pub count : literals + length words ≤ limits.literals
  pub each : AllByRecursion (SpellsLiteral limits.digits) words
  pub after : List ℕ
  pub is : rest ≡ clause_text words after
  pub end : ClauseEnds limits imports after

-- the letter d, and the identities to delete
pub record DeletionFollows (limits : Limits) (rest : List ℕ) : Type 0 where
  pub after : List ℕ
  pub is : rest ≡ letter_d ∷ after
  pub ids : ListFollows limits true 0 after

-- a space, and the literals of an import
pub record LiteralsFollow (limits : Limits) (rest : List ℕ) : Type 0 where
  pub after : List ℕ
  pub is : rest ≡ space ∷ after
  pub clause : ClauseFollows limits true 0 after

-- the letter i, a space, and the literals of an import
pub record ImportFollows (limits : Limits) (rest : List ℕ) : Type 0 where
  pub after : List ℕ
  pub is : rest ≡ letter_i ∷ after
  pub lits : LiteralsFollow limits after

-- after this many literals: more of the clause, or, if the kind of the line is still open, the rest
-- of a deletion or of an import
abbrev pub BodyFollows : Limits → Bool → ℕ → List ℕ → Type 0
BodyFollows limits imports literals rest =
    ClauseFollows limits imports literals rest
    ⊎ ((literals ≡ 0) × (imports ≡ false)
    × (DeletionFollows limits rest ⊎ ImportFollows limits rest))

-- the digits after this many others, a space, and what may come after it
pub record DigitsFollow (limits : Limits) (digits : ℕ) (Next : List ℕ → Type 0)
    (rest : List ℕ) : Type 0 where
  pub more : List ℕ
  pub each : AllByRecursion IsDigit more
  pub count : digits + length more ≤ limits.digits
  pub after : List ℕ
  pub is : rest ≡ more ++ space ∷ after
  pub next : Next after

-- a number, a space, and what may come after it
pub record NumberFollows (limits : Limits) (Next : List ℕ → Type 0) (rest : List ℕ) : Type 0 where
  pub first : ℕ
  pub low : 49 ≤ first
  pub high : first ≤ 57
  pub after : List ℕ
  pub is : rest ≡ first ∷ after
  pub digits : DigitsFollow limits 1 Next after

-- the rests that may complete a line whose prefix ends at the spot
abbrev pub MayComplete : Limits → Spot → List ℕ → Type 0
MayComplete limits AtStart rest = NumberFollows limits (BodyFollows limits false 0) rest
MayComplete limits (InLead digits) rest =
    DigitsFollow limits digits (BodyFollows limits false 0) rest
MayComplete limits AfterImport rest = LiteralsFollow limits rest
MayComplete limits (BeforeLiteral imports literals) rest = BodyFollows limits imports literals rest
MayComplete limits (AfterMinus imports literals) rest =
    NumberFollows limits (ClauseFollows limits imports (literals + 1)) rest
MayComplete limits (InLiteral imports digits literals) rest =
    DigitsFollow limits digits (ClauseFollows limits imports (literals + 1)) rest
MayComplete limits (BeforeList deletes) rest = ListFollows limits deletes 0 rest
MayComplete limits (BeforeItem deletes items) rest = ListFollows limits deletes items (space ∷ rest)
MayComplete limits (InItem deletes digits items) rest =
    DigitsFollow limits digits (λ after. ListFollows limits deletes (items + 1) (space ∷ after))
    rest
MayComplete limits AtEnd rest = rest ≡ line_feed ∷ []

-- what was read ends at the spot: whatever the limits, exactly the rests of `MayComplete` complete
-- it to a line
pub record Tracks (read : List ℕ) (spot : Spot) : Type 0 where
  pub completes : (signed : Bool) (limits : Limits) → AreLifted signed limits → (rest : List ℕ)
      → IsLine limits (read ++ rest) → MayComplete limits spot rest
  pub line : (signed : Bool) (limits : Limits) → AreLifted signed limits → (rest : List ℕ)
      → MayComplete limits spot rest → IsLine limits (read ++ rest)

-- the byte leads from one spot to the other
pub record Moves (spot : Spot) (byte : ℕ) (next : Spot) : Type 0 where
  pub to : (signed : Bool) (limits : Limits) → AreLifted signed limits → (rest : List ℕ)
      → MayComplete limits spot (byte ∷ rest) → MayComplete limits next rest
  pub from : (signed : Bool) (limits : Limits) → AreLifted signed limits → (rest : List ℕ)
      → MayComplete limits next rest → MayComplete limits spot (byte ∷ rest)

-- no rest may follow the byte
abbrev pub Blocks : Bool → Spot → ℕ → Type 0
Blocks signed spot byte = (limits : Limits) → AreLifted signed limits → (rest : List ℕ)
    → ¬ MayComplete limits spot (byte ∷ rest)

-- some rest may follow the byte, if the limits are wide enough
pub record Allows (signed : Bool) (spot : Spot) (byte : ℕ) : Type 0 where
  pub limits : Limits
  pub lifted : AreLifted signed limits
  pub rest : List ℕ
  pub completes : MayComplete limits spot (byte ∷ rest)
