-- Every list of bytes can be cut into lines: take bytes one by one, up to the end of a line or to
-- the byte that decides that there is no line.
use Rattle.std.proofs.Common.{◌≡◌, ◌≢◌, ℕ, suc, zero, ◌+◌, ◌<◌, ◌≤◌, ◌⊎◌, inl, inr, Bool, true, false, List, [], ◌∷◌, ◌++◌, length, refl}
use Rattle.std.proofs.Common.{sym, ◌∙◌, ap, subst, arith}
use Rattle.std.specs.List.{flat_map}
use Rattle.std.proofs.lemmas.Bool.{cases_eq, cases_lt}
use Rattle.std.proofs.lemmas.Grind.{flat_map-append}
use Rattle.std.proofs.lemmas.List.{append_assoc, append-nil, length-append, nil_from_length}
use Rattle.lrup_model.specs.lemmas.ListLemmas.{All-append}
use Rattle.lrup_text.specs.declared.LineFault.{LineFault}
use Rattle.lrup_text.specs.declared.LineFault.TheVariants.{Spelling, TooLong, RatHint}
use Rattle.lrup_text.specs.Faults.{IsRefused, HasTextFault}
use Rattle.lrup_text.specs.internal.ByteNames.{line_feed, minus, zero_digit, letter_d, letter_i}
use Rattle.lrup_text.specs.Writing.{space}
use Rattle.lrup_text.specs.Grammar.{IsDigit, IsLine, standard}
use Rattle.lrup_text.specs.Laws.{BeginningCut, EveryCut}
use Rattle.lrup_text.specs.Lines.{StreamLine, IsWithinLimits, line_text, Cut, IsPending}
use Rattle.lrup_text.specs.internal.Rests.{Spot, AtStart, InLead, AfterImport, BeforeLiteral, AfterMinus, InLiteral, BeforeList}
use Rattle.lrup_text.specs.internal.Rests.{BeforeItem, InItem, AtEnd, Tracks, Moves, Blocks, Allows}
use Rattle.lrup_text.proofs.Decisions.{decides_spelling, decides_long, decides_rat}
use Rattle.lrup_text.proofs.Steps.{IsBounded, Exceeds, NoFirst, NoDigit, at_start, start_digit, lead_digit, lead_space, body_hints}
use Rattle.lrup_text.proofs.Steps.{body_end, body_deletion, body_import, import_space, import_blocks, body_minus, body_digit, minus_digit}
use Rattle.lrup_text.proofs.Steps.{literal_digit, literal_space, list_space, item_zero, item_digit, number_digit, number_space}
use Rattle.lrup_text.proofs.Steps.{start_blocks, lead_blocks, body_blocks, minus_blocks, literal_blocks, list_blocks, item_blocks}
use Rattle.lrup_text.proofs.Steps.{number_blocks, end_blocks, lead_exceeds, literal_exceeds, number_exceeds, body_exceeds_digit}
use Rattle.lrup_text.proofs.Steps.{body_exceeds_minus, item_exceeds, hint_allows, standard_lifted, one_more, tracks_more}
use Rattle.lrup_text.proofs.Streams.{one_cut, texts_are_lines, refused_stays}
use Rattle.lrup_text.proofs.TextLaws.{empty_pending, tracks_pending}

-- What a byte does at a spot.
data ByteAt (spot : Spot) (b : ℕ) : Type 0 where
  moves : (next : Spot) → Moves spot b next → IsBounded next → ByteAt spot b
  blocked : ((signed : Bool) → Blocks signed spot b) → ByteAt spot b
  exceeds : Exceeds spot b → ByteAt spot b
  signed_hint : Blocks false spot b → Allows true spot b → ByteAt spot b
  ends_line : spot ≡ AtEnd → b ≡ line_feed → ByteAt spot b

first_or_not : (b : ℕ) → ((49 ≤ b) × (b ≤ 57)) ⊎ NoFirst b
first_or_not b = elim (cases_lt b 49) [
  | inl low ↦ inr (λ l h. omega arith)
  | inr low ↦ elim (cases_lt 57 b) [ inl high ↦ inr (λ l h. omega arith) | inr high ↦ inl (low, high) ]
]

digit_or_not : (b : ℕ) → IsDigit b ⊎ NoDigit b
digit_or_not b = elim (cases_lt b 48) [
  | inl low ↦ inr (λ l h. omega arith)
  | inr low ↦ elim (cases_lt 57 b) [ inl high ↦ inr (λ l h. omega arith) | inr high ↦ inl (low, high) ]
]

-- a number that is at most another is less than it, or equal
less_or_same : (n most : ℕ) → n ≤ most → (n < most) ⊎ (n ≡ most)
less_or_same n most few = elim (cases_lt n most) [ inl less ↦ inl less | inr many ↦ inr (omega arith) ]

-- inside a number: a digit, a space, or another byte
number_byte : (spot : Spot) (k b : ℕ) → k ≤ 18
    → (IsDigit b → k < 18 → ByteAt spot b) → (IsDigit b → k ≡ 18 → ByteAt spot b) → ByteAt spot space
    → (NoDigit b → b ≢ space → ByteAt spot b) → ByteAt spot b
number_byte spot k b few digit digit_more closes none = elim (digit_or_not b) [
  | inl d ↦ elim (less_or_same k 18 few) [ inl less ↦ digit d less | inr same ↦ digit_more d same ]
  | inr never ↦ elim (cases_eq b space) [ inl is ↦ subst (ByteAt spot) (sym is) closes | inr ne ↦ none never ne ]
]

-- among literals: a 0, a sign, a digit, a letter if the kind of the line isn't known yet, or
-- another byte
body_byte : (imports : Bool) (n b : ℕ) → n ≤ 65535 → ByteAt (BeforeLiteral imports n) b
body_byte imports n b few = elim (cases_eq b zero_digit) [
  | inl is ↦ subst (ByteAt (BeforeLiteral imports n)) (sym is) (closes imports)
  | inr not_zero ↦ elim (cases_eq b minus) [
    | inl is ↦ subst (ByteAt (BeforeLiteral imports n)) (sym is) (sign (less_or_same n 65535 few))
    | inr not_minus ↦ elim (first_or_not b) [
      | inl first ↦ digit first (less_or_same n 65535 few)
      | inr never ↦ letter imports not_zero not_minus never (cases_eq n 0)
    ]
  ]
]
  where
    closes : (kind : Bool) → ByteAt (BeforeLiteral kind n) zero_digit
    closes true = moves AtEnd (body_end n few) tt
    closes false = moves (BeforeList false) (body_hints n few) tt

    sign : (n < 65535) ⊎ (n ≡ 65535) → ByteAt (BeforeLiteral imports n) minus
    sign (inl less) = moves (AfterMinus imports n) (body_minus imports n) less
    sign (inr same) = subst (λ k. ByteAt (BeforeLiteral imports k) minus) (sym same) (exceeds (body_exceeds_minus imports))

    digit : (49 ≤ b) × (b ≤ 57) → (n < 65535) ⊎ (n ≡ 65535) → ByteAt (BeforeLiteral imports n) b
    digit first (inl less) = moves (InLiteral imports 1 n) (body_digit imports n b first.0 first.1) (omega arith, less)
    digit first (inr same) =
        subst (λ k. ByteAt (BeforeLiteral imports k) b) (sym same) (exceeds (body_exceeds_digit imports b first.0 first.1))

    letter : (kind : Bool) → b ≢ zero_digit → b ≢ minus → NoFirst b → (n ≡ 0) ⊎ (n ≢ 0) → ByteAt (BeforeLiteral kind n) b
    letter true not_zero not_minus never any =
        blocked (λ signed. body_blocks signed true n b not_zero not_minus never (λ none adds. let e : true ≡ false = adds in cc))
    letter false not_zero not_minus never (inr some) =
        blocked (λ signed. body_blocks signed false n b not_zero not_minus never (λ none adds. absurd (some none)))
    letter false not_zero not_minus never (inl none) =
        subst (λ k. ByteAt (BeforeLiteral false k) b) (sym none) (elim (cases_eq b letter_d) [
          | inl is ↦ subst (ByteAt (BeforeLiteral false 0)) (sym is) (moves (BeforeList true) body_deletion tt)
          | inr not_d ↦ elim (cases_eq b letter_i) [
            | inl is ↦ subst (ByteAt (BeforeLiteral false 0)) (sym is) (moves AfterImport body_import tt)
            | inr not_i ↦ blocked (λ signed. body_blocks signed false 0 b not_zero not_minus never (λ _ _. (not_d, not_i)))
          ]
        ])

item_byte : (deletes : Bool) (j b : ℕ) → j ≤ 65536 → ByteAt (BeforeItem deletes j) b
item_byte deletes j b few = elim (cases_eq b zero_digit) [
  | inl is ↦ subst (ByteAt (BeforeItem deletes j)) (sym is) (moves AtEnd (item_zero deletes j few) tt)
  | inr not_zero ↦ elim (first_or_not b) [
    | inl first ↦ digit first (less_or_same j 65536 few)
    | inr never ↦ elim (cases_eq b minus) [
      | inl is ↦ subst (ByteAt (BeforeItem deletes j)) (sym is) (sign deletes)
      | inr not_minus ↦ blocked (λ signed. item_blocks signed deletes j b not_zero never (λ e d s. not_minus e))
    ]
  ]
]
  where
    digit : (49 ≤ b) × (b ≤ 57) → (j < 65536) ⊎ (j ≡ 65536) → ByteAt (BeforeItem deletes j) b
    digit first (inl less) = moves (InItem deletes 1 j) (item_digit deletes j b first.0 first.1) (omega arith, less)
    digit first (inr same) = subst (λ k. ByteAt (BeforeItem deletes k) b) (sym same) (exceeds (item_exceeds deletes b first.0 first.1))

    sign : (kind : Bool) → ByteAt (BeforeItem kind j) minus
    sign true = blocked (λ signed. item_blocks signed true j minus (λ e. let e' : minus ≡ zero_digit = e in omega arith)
        (λ low high. omega arith) (λ e d s. let d' : true ≡ false = d in cc))
    sign false = signed_hint
        (item_blocks false false j minus (λ e. let e' : minus ≡ zero_digit = e in omega arith) (λ low high. omega arith)
        (λ e d s. let s' : false ≡ true = s in cc))
        (hint_allows j few)

byte_at : (spot : Spot) (b : ℕ) → IsBounded spot → ByteAt spot b
byte_at AtStart b bounded = elim (first_or_not b) [
  | inl first ↦ moves (InLead 1) (start_digit b first.0 first.1) (omega arith)
  | inr never ↦ blocked (λ signed. start_blocks signed b never)
]
byte_at (InLead k) b bounded =
    number_byte (InLead k) k b bounded
    (λ d less. moves (InLead (k + 1)) (lead_digit k b d) (omega arith))
    (λ d same. subst (λ n. ByteAt (InLead n) b) (sym same) (exceeds (lead_exceeds b d)))
    (moves (BeforeLiteral false 0) (lead_space k bounded) (omega arith))
    (λ never ne. blocked (λ signed. lead_blocks signed k b never ne))
byte_at AfterImport b bounded = elim (cases_eq b space) [
  | inl is ↦ subst (ByteAt AfterImport) (sym is) (moves (BeforeLiteral true 0) import_space (omega arith))
  | inr ne ↦ blocked (λ signed. import_blocks signed b ne)
]
byte_at (BeforeLiteral imports n) b bounded = body_byte imports n b bounded
byte_at (AfterMinus imports n) b bounded = elim (first_or_not b) [
  | inl first ↦ moves (InLiteral imports 1 n) (minus_digit imports n b first.0 first.1) (omega arith, bounded)
  | inr never ↦ blocked (λ signed. minus_blocks signed imports n b never)
]
byte_at (InLiteral imports k n) b bounded =
    number_byte (InLiteral imports k n) k b bounded.0
    (λ d less. moves (InLiteral imports (k + 1) n) (literal_digit imports k n b d) (omega arith, bounded.1))
    (λ d same. subst (λ x. ByteAt (InLiteral imports x n) b) (sym same) (exceeds (literal_exceeds imports n b bounded.1 d)))
    (moves (BeforeLiteral imports (n + 1)) (literal_space imports k n bounded.0) (omega (arith, bounded.1)))
    (λ never ne. blocked (λ signed. literal_blocks signed imports k n b never ne))
byte_at (BeforeList deletes) b bounded = elim (cases_eq b space) [
  | inl is ↦ subst (ByteAt (BeforeList deletes)) (sym is) (moves (BeforeItem deletes 0) (list_space deletes) (omega arith))
  | inr ne ↦ blocked (λ signed. list_blocks signed deletes b ne)
]
byte_at (BeforeItem deletes j) b bounded = item_byte deletes j b bounded
byte_at (InItem deletes k j) b bounded =
    number_byte (InItem deletes k j) k b bounded.0
    (λ d less. moves (InItem deletes (k + 1) j) (number_digit deletes k j b d) (omega arith, bounded.1))
    (λ d same. subst (λ x. ByteAt (InItem deletes x j) b) (sym same) (exceeds (number_exceeds deletes j b bounded.1 d)))
    (moves (BeforeItem deletes (j + 1)) (number_space deletes k j bounded.0) (omega (arith, bounded.1)))
    (λ never ne. blocked (λ signed. number_blocks signed deletes k j b never ne))
byte_at AtEnd b bounded = elim (cases_eq b line_feed) [ inl is ↦ ends_line refl is | inr ne ↦ blocked (λ signed. end_blocks signed b ne) ]

-- How bytes begin: with a line, with a text that may become a line, or with a text that can't.
data Front (bytes : List ℕ) : Type 0 where
  whole_line : (line : StreamLine) (rest : List ℕ) → IsWithinLimits line → bytes ≡ line_text line ++ rest → Front bytes
  part : IsPending bytes → Front bytes
  faulty : (fault : LineFault) → HasTextFault bytes fault → Front bytes

-- how bytes begin, if those read so far end at this spot
front_from : (read : List ℕ) (spot : Spot) → Tracks read spot → IsBounded spot → (bytes : List ℕ) → Front (read ++ bytes)
front_from read spot tracks bounded [] = subst Front (sym (append-nil read)) (part (tracks_pending read spot tracks bounded))
front_from read spot tracks bounded (b ∷ bytes) = elim (byte_at spot b bounded) [
  | moves next step small ↦
      rw (one_more read b bytes) at (front_from (read ++ b ∷ []) next (tracks_more read spot next b tracks step) small bytes)
  | blocked stops ↦ decided Spelling (decides_spelling read spot b tracks bounded stops)
  | exceeds long ↦ decided TooLong (decides_long read spot b tracks bounded long)
  | signed_hint stops allows ↦ decided RatHint (decides_rat read spot b tracks bounded stops allows)
  | ends_line here is ↦ line (tracks.line false standard standard_lifted (b ∷ []) (rw here (ap (λ x. x ∷ []) is)))
]
  where
    decided : (fault : LineFault) → IsRefused (read ++ b ∷ []) fault → Front (read ++ b ∷ bytes)
    decided fault h = faulty fault (read ++ b ∷ [], bytes, sym (one_more read b bytes), h)

    line : IsLine standard (read ++ b ∷ []) → Front (read ++ b ∷ bytes)
    line h =
        let spelled = (texts_are_lines (read ++ b ∷ [])).0 h in
        whole_line spelled.0 bytes spelled.1.0 (sym (one_more read b bytes) ∙ ap (λ t. t ++ bytes) spelled.1.1)

front_of : (bytes : List ℕ) → Front bytes
front_of bytes = front_from [] AtStart at_start tt bytes

-- the text of a line isn't empty
text_some : (line : StreamLine) → IsWithinLimits line → 0 < length (line_text line)
text_some line fits = elim (cases_eq (length (line_text line)) 0) [
  | inl none ↦ absurd (empty_pending.whole line [] fits (sym (append-nil (line_text line) ∙ nil_from_length (line_text line) none)))
  | inr some ↦ omega (arith, some)
]

-- a line, and then the lines that the rest is cut into
cut_more : (line : StreamLine) (stream more : List ℕ) → IsWithinLimits line → stream ≡ line_text line ++ more
    → (lines : List StreamLine) × (rest : List ℕ) × Cut more lines rest
    → (lines : List StreamLine) × (rest : List ℕ) × Cut stream lines rest
cut_more line stream more fits is cut = (
  line ∷ cut.0,
  cut.1,
  record {
    bytes = is ∙ ap (λ t. line_text line ++ t) cut.2.bytes ∙ sym (append_assoc (line_text line) (flat_map line_text cut.0) cut.1);
    each = (fits, cut.2.each);
    last = cut.2.last;
  },
)

cut_up_to : (most : ℕ) (stream : List ℕ) → length stream ≤ most → (lines : List StreamLine) × (rest : List ℕ) × Cut stream lines rest
cut_up_to zero stream few =
    let none : stream ≡ [] = nil_from_length stream (omega arith) in
    ([], [], record { bytes = none; each = tt; last = empty_pending.whole })
cut_up_to (suc most) stream few = elim (front_of stream) [
  | whole_line line more fits is ↦
      let size : length stream ≡ length (line_text line) + length more = ap length is ∙ length-append (line_text line) more in
      cut_more line stream more fits is (cut_up_to most more (omega (arith, text_some line fits)))
  | part pending ↦ ([], stream, record { bytes = refl; each = tt; last = pending.whole })
  | faulty fault h ↦ ([], stream, record { bytes = refl; each = tt; last = rw h.2 (refused_stays h.0 h.1 fault h.3) })
]

pub every_cut : EveryCut
every_cut stream = cut_up_to (length stream) stream (omega arith)

-- Bytes, and the bytes that follow them.

pub cut_goes_on : (bytes more : List ℕ) (lines others : List StreamLine) (rest left : List ℕ)
    → Cut bytes lines rest → Cut (rest ++ more) others left
    → Cut (bytes ++ more) (lines ++ others) left
cut_goes_on bytes more lines others rest left a b = record {
  bytes = ap (λ l. l ++ more) a.bytes ∙ append_assoc (flat_map line_text lines) rest more ∙ ap (λ l. flat_map line_text lines ++ l) b.bytes
      ∙ sym (append_assoc (flat_map line_text lines) (flat_map line_text others) left)
      ∙ ap (λ l. l ++ left) (sym (flat_map-append line_text lines others));
  each = All-append IsWithinLimits lines others a.each b.each;
  last = b.last;
}

pub beginning_cut : BeginningCut
beginning_cut bytes more lines all rest left a whole =
    let after = every_cut (rest ++ more) in
    let same =
    one_cut (bytes ++ more) all (lines ++ after.0) left after.1 whole (cut_goes_on bytes more lines after.0 rest after.1 a after.2) in
    (after.0, same.0, subst (Cut (rest ++ more) after.0) (sym same.1) after.2)
