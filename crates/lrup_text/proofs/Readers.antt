-- A line that is read in parts: at its beginning, between pieces, and through a piece.
use Rattle.std.proofs.Common.{◌≡◌, ◌≢◌, ℕ, ℤ, ◌+◌, ◌<◌, Bool, true, false, List, [], ◌∷◌, ◌++◌, length, take, drop, get_or, refl, sym}
use Rattle.std.proofs.Common.{◌∙◌, ap, subst, arith}
use Rattle.std.specs.Fmt.{decimal}
use Rattle.std.proofs.lemmas.List.{append_assoc, append-nil, length-drop, take_more}
use Rattle.std.proofs.Math.Seq.{take-add}
use Rattle.lrup_text.specs.declared.partial_line.ParserState.{ParserState}
use Rattle.lrup_text.specs.declared.partial_line.ParserState.TheVariants as states
use Rattle.lrup_text.specs.declared.partial_line.ByteStep.{ByteStep}
use Rattle.lrup_text.specs.declared.partial_line.ByteStep.TheVariants.{More, Done, Refused}
use Rattle.lrup_text.specs.Faults.{IsRefused}
use Rattle.lrup_text.specs.declared.partial_line.PartialLine.{PartialLine}
use Rattle.lrup_text.specs.Writing.{space}
use Rattle.lrup_text.specs.internal.ByteNames.{minus, zero_digit, letter_i}
use Rattle.lrup_text.specs.Grammar.{SpellsNumber}
use Rattle.lrup_text.specs.Lines.{IsPending, IsStreamNumber, LineText}
use Rattle.lrup_text.specs.internal.Reading.{HasRoom, FitsDigits, CanOccurInLine, IsPartialLine, ReadsAhead, ReadsByte, StepsThrough}
use Rattle.lrup_text.specs.internal.Reading.{pending_at, spot_at, pending, IsRoomy, line_so_far, clause_front, list_front, end_front}
use Rattle.lrup_text.specs.internal.Reading.{literal_front, literals_text, numbers_text, literals_read, identities_read}
use Rattle.lrup_text.proofs.Bytes.{bounded, below_limit}
use Rattle.lrup_text.proofs.TextLaws.{tracks_pending}
use Rattle.lrup_text.proofs.Numerals.{number_word}
use Rattle.lrup_text.proofs.Steps.{at_start}

-- what has been read may still become a line, and contains no whole line
pub reads_pending : (m : PartialLine) → IsPartialLine m → IsPending (pending m)
reads_pending m h = tracks_pending (pending m) (spot_at m.state m) h.tracks (bounded m h)

-- in the state `Start` no byte has been read, and the invariant holds
pub start_reads : (m : PartialLine) → m.state ≡ states.Start → HasRoom m.literals.items m.identities.items
    → CanOccurInLine m.lead m.literals.items m.literal_count m.identities.items m.identity_count
    → FitsDigits m.number m.digits → IsPartialLine m × (pending m ≡ [])
unfolding pending_at spot_at IsRoomy
start_reads m at room kept number = (
  record {
    room = room;
    kept = kept;
    number = number;
    roomy = subst (λ p. IsRoomy p m) (sym at) tt;
    tracks = subst (λ p. Rattle.lrup_text.specs.internal.Rests.Tracks (pending_at p m) (spot_at p m)) (sym at) at_start;
  },
  ap (λ p. pending_at p m) at,
)

-- a text with a byte in it isn't empty; so only in state `Start` has nothing of a line been read
some_byte : (xs : List ℕ) (y : ℕ) (ys : List ℕ) → xs ++ y ∷ ys ≡ [] → ⊥
some_byte [] y ys e = cc
some_byte (x ∷ xs) y ys e = cc

some_byte_before : (xs : List ℕ) (y : ℕ) (ys zs : List ℕ) → (xs ++ y ∷ ys) ++ zs ≡ [] → ⊥
some_byte_before xs y ys zs e = some_byte xs y (ys ++ zs) (sym (append_assoc xs (y ∷ ys) zs) ∙ e)

list_started : (deletes : Bool) (lead : ℕ) (lits : List ℤ) → list_front deletes lead lits ≡ [] → ⊥
list_started true lead lits e = some_byte (decimal lead) space _ e
list_started false lead lits e = some_byte (clause_front false lead lits) zero_digit _ e

clause_started : (imports : Bool) (lead : ℕ) (lits : List ℤ) (more : List ℕ) → clause_front imports lead lits ++ more ≡ [] → ⊥
clause_started true lead lits more e = some_byte_before (decimal lead) space (letter_i ∷ space ∷ literals_text lits) more e
clause_started false lead lits more e = some_byte_before (decimal lead) space (literals_text lits) more e

end_started : (imports deletes : Bool) (lead : ℕ) (lits : List ℤ) (ids : List ℕ) → end_front imports deletes lead lits ids ≡ [] → ⊥
end_started true deletes lead lits ids e = some_byte (clause_front true lead lits) zero_digit _ e
end_started false deletes lead lits ids e = some_byte (list_front deletes lead lits ++ space ∷ numbers_text ids) zero_digit _ e

word_some : (w : List ℕ) → SpellsNumber 18 w → w ≡ [] → ⊥
word_some [] h e = h
word_some (c ∷ cs) h e = cc

started : (m : PartialLine) (state : ParserState) → state ≢ states.Start → FitsDigits m.number m.digits → pending_at state m ≡ [] → ⊥
unfolding pending_at
started m states.Start ne h e = ne refl
started m states.Lead ne h e = word_some (decimal m.number) (number_word m.number h.low (below_limit m.number m.digits h)) e
started m states.Import ne h e = some_byte (decimal m.lead) space _ e
started m states.Body ne h e =
    clause_started m.imports m.lead (literals_read m) [] (append-nil (clause_front m.imports m.lead (literals_read m)) ∙ e)
started m states.Minus ne h e = clause_started m.imports m.lead (literals_read m) (minus ∷ []) e
started m states.Literal ne h e = clause_started m.imports m.lead (literals_read m) (literal_front m.negative m.number) e
started m states.List ne h e = list_started m.deletes m.lead (literals_read m) e
started m states.Item ne h e = some_byte (list_front m.deletes m.lead (literals_read m)) space _ e
started m states.Number ne h e =
    some_byte_before (list_front m.deletes m.lead (literals_read m)) space (numbers_text (identities_read m)) (decimal m.number) e
started m states.LineEnd ne h e = end_started m.imports m.deletes m.lead (literals_read m) (identities_read m) e

pub is_started : (m : PartialLine) → IsPartialLine m → m.state ≢ states.Start → pending m ≡ [] → ⊥
is_started m h ne e = started m m.state ne h.number e

pub is_empty : (m : PartialLine) → m.state ≡ states.Start → pending m ≡ []
unfolding pending_at
is_empty m at = ap (λ p. pending_at p m) at

-- what has been read grows by one byte of a piece
pub read_more : (read before : List ℕ) (piece : List ℕ) (i : ℕ) (byte : ℕ) (now : List ℕ) → i < length piece → byte ≡ get_or piece i 0
    → before ≡ read ++ take i piece → now ≡ before ++ byte ∷ [] → now ≡ read ++ take (i + 1) piece
read_more read before piece i byte now h is so step =
    step ∙ ap (λ t. t ++ byte ∷ []) so ∙ append_assoc read (take i piece) (byte ∷ []) ∙ ap (λ x. read ++ (take i piece ++ x ∷ [])) is
    ∙ ap (λ t. read ++ t) (sym (take_more piece i 0 h))

-- without literals and identities, the line only needs a first number
pub kept_none : (first : ℕ) (lits : List ℤ) (ids : List ℕ) → IsStreamNumber first → CanOccurInLine first lits 0 ids 0
kept_none first lits ids h = record { lead = h; few_literals = omega arith; few_identities = omega arith; literals = tt; identities = tt }

-- `start_reads` with the lists given by equations
pub restarts : (next : PartialLine) (lits : List ℤ) (ids : List ℕ) → next.state ≡ states.Start → next.literals.items ≡ lits
    → next.identities.items ≡ ids → length lits ≡ 65535 → length ids ≡ 65536
    → CanOccurInLine next.lead lits next.literal_count ids next.identity_count → FitsDigits next.number next.digits
    → IsPartialLine next × (pending next ≡ [])
restarts next lits ids at lits_are ids_are room_lits room_ids kept number =
    start_reads next at (record { literals = ap length lits_are ∙ room_lits; identities = ap length ids_are ∙ room_ids })
    (rw (lits_are, ids_are) kept) number

-- the result for a piece depends only on the text read before
pub steps_from : (old other : PartialLine) (piece : List ℕ) (used : ℕ) (step : ByteStep) (new : PartialLine) → pending other ≡ pending old
    → StepsThrough other piece used step new → StepsThrough old piece used step new
steps_from old other piece used More new same h = (h.0, h.1, h.2 ∙ ap (λ t. t ++ piece) same)
steps_from old other piece used Done new same h = (h.0, h.1, h.2, h.3, rw same at h.4)
steps_from old other piece used (Refused fault) new same h = (h.0, h.1, subst (λ t. IsRefused (t ++ take used piece) fault) same h.2)

-- reading a part of a piece, and then a part of the rest, is reading both parts of the piece
pub ahead_then : (old mid new : PartialLine) (piece rest : List ℕ) (used more : ℕ) → ReadsAhead old piece used mid → rest ≡ drop used piece
    → ReadsAhead mid rest more new → ReadsAhead old piece (used + more) new
ahead_then old mid new piece rest used more h is k = record {
  bound = omega (arith, h.bound, k.bound, ap length is, length-drop used piece);
  reads = k.reads;
  is = k.is ∙ ap (λ t. t ++ take more rest) h.is ∙ append_assoc (pending old) (take used piece) (take more rest)
      ∙ ap (λ t. pending old ++ (take used piece ++ take more t)) is ∙ ap (λ t. pending old ++ t) (sym (take-add used more piece));
}

-- what has been read, with the next byte of a piece
byte_after : (old mid : PartialLine) (piece : List ℕ) (used byte : ℕ) → pending mid ≡ pending old ++ take used piece → used < length piece
    → byte ≡ get_or piece used 0 → pending mid ++ byte ∷ [] ≡ pending old ++ take (used + 1) piece
byte_after old mid piece used byte same inside is =
    ap (λ t. t ++ byte ∷ []) same ∙ append_assoc (pending old) (take used piece) (byte ∷ [])
    ∙ ap (λ x. pending old ++ (take used piece ++ x ∷ [])) is
    ∙ ap (λ t. pending old ++ t) (sym (take_more piece used 0 inside))

pub ahead_byte : (old mid new : PartialLine) (piece : List ℕ) (used byte : ℕ) → ReadsAhead old piece used mid → used < length piece
    → byte ≡ get_or piece used 0 → ReadsByte mid byte More new → ReadsAhead old piece (used + 1) new
ahead_byte old mid new piece used byte h inside is k = record {
  bound = omega arith;
  reads = k.0;
  is = k.1 ∙ byte_after old mid piece used byte h.is inside is;
}

pub steps_byte : (old mid new : PartialLine) (piece : List ℕ) (used byte : ℕ) (step : ByteStep) → ReadsAhead old piece used mid
    → used < length piece → byte ≡ get_or piece used 0 → (step ≡ More → ⊥) → ReadsByte mid byte step new
    → StepsThrough old piece (used + 1) step new
steps_byte old mid new piece used byte More h inside is ends k = absurd (ends refl)
steps_byte old mid new piece used byte Done h inside is ends k =
    (omega arith, omega arith, k.0, k.1, subst (LineText (line_so_far new)) (byte_after old mid piece used byte h.is inside is) k.2)
steps_byte old mid new piece used byte (Refused fault) h inside is ends k =
    (omega arith, omega arith, subst (λ t. IsRefused t fault) (byte_after old mid piece used byte h.is inside is) k)
