-- The texts of the lines of a stream: the RUP part of LRAT text (Cruz-Filipe et al., CADE 2017), in
-- this project's spelling.
--     line = ( add / del / imp ) LF
--     add  = num SP *( lit SP ) "0" *( SP num ) SP "0"
--     del  = num SP "d" *( SP num ) SP "0"
--     imp  = num SP "i" *( SP lit ) SP "0"
--     lit  = [ "-" ] num
--     num  = one digit 1 to 9, then digits 0 to 9
-- SP is one space. A line is spelled by words, which are lists of bytes. Limits say how many words
-- there may be, and how long they may be.
use Rattle.std.specs.Prelude.{◌≡◌, ℕ, ◌<◌, ◌≤◌, ◌⊎◌, Bool, false, List, [], ◌∷◌, ◌++◌, codes, length, MatchBool}
use Rattle.std.specs.List.{AllByRecursion}

-- the maximum numbers of digits of a number, of literals of an addition or an import, and of hints
-- of an addition or identities of a deletion; and whether a hint may have a sign
pub record Limits : Type 0 where
  pub digits : ℕ
  pub literals : ℕ
  pub identities : ℕ
  pub signed : Bool

-- the limits of a stream
abbrev pub standard : Limits
standard = record { digits = 18; literals = 65535; identities = 65536; signed = false }

-- limits at least as wide as those of a stream, with signed hints or without
pub record AreLifted (signed : Bool) (limits : Limits) : Type 0 where
  pub digits : 18 ≤ limits.digits
  pub literals : 65535 ≤ limits.literals
  pub identities : 65536 ≤ limits.identities
  pub sign : limits.signed ≡ signed

-- a digit 0 to 9
abbrev pub IsDigit : ℕ → Type 0
IsDigit byte = (48 ≤ byte) × (byte ≤ 57)

-- num, of at most this many digits
abbrev pub SpellsNumber : ℕ → List ℕ → Type 0
SpellsNumber most [] = ⊥
SpellsNumber most (byte ∷ bytes) =
    (49 ≤ byte) × (byte ≤ 57) × AllByRecursion IsDigit bytes × (length bytes < most)

-- lit; 45 is the byte `-`
abbrev pub SpellsLiteral : ℕ → List ℕ → Type 0
SpellsLiteral most [] = ⊥
SpellsLiteral most (byte ∷ bytes) =
    SpellsNumber most (byte ∷ bytes) ⊎ ((byte ≡ 45) × SpellsNumber most bytes)

-- a hint: num, or lit if hints are signed
abbrev pub SpellsHint : Limits → List ℕ → Type 0
SpellsHint limits word =
    MatchBool limits.signed (SpellsLiteral limits.digits word) (SpellsNumber limits.digits word)

-- the words of a line
pub data Words : Type 0 where
  Adds : (id : List ℕ) (lits hints : List (List ℕ)) → Words
  Deletes : (lead : List ℕ) (ids : List (List ℕ)) → Words
  Imports : (id : List ℕ) (lits : List (List ℕ)) → Words

-- at most this many elements, each of this kind
pub record AreFew {X : Type 0} (most : ℕ) (Is : X → Type 0) (xs : List X) : Type 0 where
  pub count : length xs ≤ most
  pub each : AllByRecursion Is xs

-- words of a line within the limits
abbrev pub AreWordsWithin : Limits → Words → Type 0
AreWordsWithin limits (Adds id lits hints) =
    SpellsNumber limits.digits id × AreFew limits.literals (SpellsLiteral limits.digits) lits
    × AreFew limits.identities (SpellsHint limits) hints
AreWordsWithin limits (Deletes lead ids) =
    SpellsNumber limits.digits lead × AreFew limits.identities (SpellsNumber limits.digits) ids
AreWordsWithin limits (Imports id lits) =
    SpellsNumber limits.digits id × AreFew limits.literals (SpellsLiteral limits.digits) lits

-- *( SP num ) SP "0" LF, and *( SP lit ) SP "0" LF
abbrev pub list_text : List (List ℕ) → List ℕ
list_text [] = codes " 0\n"
list_text (word ∷ words) = codes " " ++ (word ++ list_text words)

-- *( lit SP ) "0", and the rest
abbrev pub clause_text : List (List ℕ) → List ℕ → List ℕ
clause_text [] rest = codes "0" ++ rest
clause_text (word ∷ words) rest = word ++ (codes " " ++ clause_text words rest)

-- a line's text, with its LF
abbrev pub text : Words → List ℕ
text (Adds id lits hints) = id ++ (codes " " ++ clause_text lits (list_text hints))
text (Deletes lead ids) = lead ++ (codes " d" ++ list_text ids)
text (Imports id lits) = id ++ (codes " i" ++ list_text lits)

-- the bytes are a line within the limits
abbrev pub IsLine : Limits → List ℕ → Type 0
IsLine limits bytes = (words : Words) × AreWordsWithin limits words × (bytes ≡ text words)

-- the bytes are a prefix of a line
abbrev pub Begins : List ℕ → Type 0
Begins bytes = (rest : List ℕ) × IsLine standard (bytes ++ rest)

-- the bytes are a prefix of a line if the limits are lifted, with signed hints or without
abbrev pub BeginsLifted : Bool → List ℕ → Type 0
BeginsLifted signed bytes =
    (limits : Limits) × (rest : List ℕ) × AreLifted signed limits × IsLine limits (bytes ++ rest)
