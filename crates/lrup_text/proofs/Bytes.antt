-- What each byte does, in each state, to a line that has been read in part.
use Rattle.std.proofs.Common.{unsigned_abs, ◌≡◌, ◌≢◌, ℕ, ℤ, ◌+◌, ◌-◌, ◌*◌, ◌^◌, ◌<◌, ◌≤◌, inl, inr, Bool, true, false, List, [], ◌∷◌, ◌++◌}
use Rattle.std.proofs.Common.{length, take, map, refl, sym, ◌∙◌, ap, subst, arith}
use Rattle.std.specs.Fmt.{decimal, signed_decimal}
use Rattle.std.specs.List.{AllByRecursion, flat_map}
use Rattle.std.specs.Prelude.{Vec, vec_len, slice_set}
use Rattle.std.specs.declared.alloc.Global.{Global}
use Rattle.std.proofs.lemmas.List.{append_assoc, flat_map_more, take_more_set, length-set, length-take-le}
use Rattle.std.proofs.lemmas.Bool.{cases_eq}
use Rattle.lrup_model.specs.lemmas.ListLemmas.{All-push}
use Rattle.lrup_text.specs.declared.LineFault.TheVariants.{Spelling, TooLong, RatHint}
use Rattle.lrup_text.specs.declared.partial_line.ParserState.{ParserState}
use Rattle.lrup_text.specs.declared.partial_line.ParserState.TheVariants as states
use Rattle.lrup_text.specs.declared.partial_line.PartialLine.{PartialLine}
use Rattle.lrup_text.specs.Writing.{space}
use Rattle.lrup_text.specs.internal.ByteNames.{minus, zero_digit, letter_d, letter_i, line_feed}
use Rattle.lrup_text.specs.Grammar.{IsDigit, list_text, clause_text}
use Rattle.lrup_text.specs.Faults.{IsRefused}
use Rattle.lrup_text.specs.Lines.{IsWithinLimits, IsStreamNumber, IsStreamLiteral, LineText, line_text}
use Rattle.lrup_text.specs.internal.Rests.{Spot, InLead, AfterImport, BeforeLiteral, AfterMinus, InLiteral, BeforeList, BeforeItem}
use Rattle.lrup_text.specs.internal.Rests.{InItem, AtEnd, Tracks, Moves, Blocks, Allows}
use Rattle.lrup_text.specs.internal.Reading.{FitsDigits, HasRoom, CanOccurInLine, IsPartialLine, pending_at, spot_at, pending, IsRoomy}
use Rattle.lrup_text.specs.internal.Reading.{clause_front, list_front, item_front, end_front, literal_front, literals_read, identities_read}
use Rattle.lrup_text.specs.internal.Reading.{words_text, literals_text, numbers_text, line_so_far, line_of_parts}
use Rattle.lrup_text.proofs.Decisions.{decides_spelling, decides_long, decides_rat}
use Rattle.lrup_text.proofs.Rests.{list_is_clause}
use Rattle.lrup_text.proofs.Numerals.{decimal_one, decimal_byte, power_more, power_below}
use Rattle.lrup_text.proofs.Steps.{
  NoFirst,
  NoDigit,
  IsBounded,
  Exceeds,
  at_start,
  tracks_more,
  start_digit,
  start_blocks,
  lead_digit,
  lead_space,
  lead_blocks,
  lead_exceeds,
  body_hints,
  body_end,
  body_deletion,
  body_import,
  import_space,
  import_blocks,
  body_minus,
  body_digit,
  body_blocks,
  body_exceeds_digit,
  body_exceeds_minus,
  minus_digit,
  minus_blocks,
  literal_digit,
  literal_space,
  literal_blocks,
  literal_exceeds,
  list_space,
  list_blocks,
  item_zero,
  item_digit,
  item_blocks,
  item_exceeds,
  hint_allows,
  number_digit,
  number_space,
  number_blocks,
  number_exceeds,
  end_blocks,
}

-- if an equation gives the state, what has been read ends at that state's spot
tracks_at : (m : PartialLine) (state : ParserState) → m.state ≡ state → IsPartialLine m → Tracks (pending_at state m) (spot_at state m)
tracks_at m state e h = subst (λ p. Tracks (pending_at p m) (spot_at p m)) e h.tracks

bounded_at : (m : PartialLine) (state : ParserState) → IsPartialLine m → IsRoomy state m → IsBounded (spot_at state m)
unfolding spot_at IsRoomy
bounded_at m states.Lead h roomy = h.number.few
bounded_at m states.Body h roomy = h.kept.few_literals
bounded_at m states.Minus h roomy = roomy.1
bounded_at m states.Literal h roomy = (h.number.few, roomy.1)
bounded_at m states.Item h roomy = h.kept.few_identities
bounded_at m states.Number h roomy = (h.number.few, roomy.0)
bounded_at m _ h roomy = tt

-- the counts are within the limits
pub bounded : (m : PartialLine) → IsPartialLine m → IsBounded (spot_at m.state m)
bounded m h = bounded_at m m.state h h.roomy

module _ (m : PartialLine) (state : ParserState) (at : m.state ≡ state) (reads : IsPartialLine m) (b : ℕ) where
  pub spelling_at : ((signed : Bool) → Blocks signed (spot_at state m) b) → IsRefused (pending m ++ b ∷ []) Spelling
  spelling_at blocks = decides_spelling (pending m) (spot_at m.state m) b reads.tracks (bounded m reads) (rw (sym at) at blocks)

  pub long_at : Exceeds (spot_at state m) b → IsRefused (pending m ++ b ∷ []) TooLong
  long_at exceeds =
      decides_long (pending m) (spot_at m.state m) b reads.tracks (bounded m reads) (subst (λ p. Exceeds (spot_at p m) b) (sym at) exceeds)

-- The line isn't finished after this byte.
abbrev pub GoesOn : PartialLine → ℕ → PartialLine → Type 0
GoesOn m b next = IsPartialLine next × (pending next ≡ pending m ++ b ∷ [])

-- a line that has been read in part goes on, if its byte leads to the next spot
goes_on : (m next : PartialLine) (state : ParserState) → m.state ≡ state → IsPartialLine m → (b : ℕ)
    → HasRoom next.literals.items next.identities.items
    → CanOccurInLine next.lead next.literals.items next.literal_count next.identities.items next.identity_count
    → FitsDigits next.number next.digits → IsRoomy next.state next → pending next ≡ pending_at state m ++ b ∷ []
    → Moves (spot_at state m) b (spot_at next.state next) → GoesOn m b next
goes_on m next state at reads b room kept number roomy is moves = (
  record {
    room = room;
    kept = kept;
    number = number;
    roomy = roomy;
    tracks = rw is (tracks_more (pending_at state m) (spot_at state m) (spot_at next.state next) b (tracks_at m state at reads) moves);
  },
  is ∙ ap (λ p. pending_at p m ++ b ∷ []) (sym at),
)

-- a number after its first digit, and after one more digit
pub first_digit : (b : ℕ) → 49 ≤ b → b ≤ 57 → FitsDigits (b - 48) 1
first_digit b low high = record { low = omega arith; high = omega arith; few = omega arith }

pub more_digits : (n k b : ℕ) → FitsDigits n k → k < 18 → IsDigit b → FitsDigits (n * 10 + (b - 48)) (k + 1)
more_digits n k b h few digit = record {
  low = omega (arith, h.low);
  high = power_more k n (b - 48) h.high (omega arith);
  few = omega arith;
}

-- the number is below the limit
pub below_limit : (n k : ℕ) → FitsDigits n k → n < 10 ^ 18
below_limit n k h = omega (arith, h.high, power_below k h.few)

pub decimal_next : (n k b : ℕ) → FitsDigits n k → k < 18 → IsDigit b → decimal (n * 10 + (b - 48)) ≡ decimal n ++ b ∷ []
decimal_next n k b h few digit =
    decimal_byte n b h.low (below_limit n k h) digit
    (omega (arith, below_limit (n * 10 + (b - 48)) (k + 1) (more_digits n k b h few digit)))

pub positive : (n k : ℕ) → FitsDigits n k → IsStreamNumber n
positive n k h = (h.low, below_limit n k h)

-- one more element at the end of a list appends its text
pub text_more : {X : Type 0} (f : X → List ℕ) (xs : List X) (x : X) → flat_map f (xs ++ x ∷ []) ≡ flat_map f xs ++ f x
text_more f xs x = sym (flat_map_more f [] xs x)

-- a clause's text is its words, each followed by a space, then 0, then what comes after the 0
pub words_end : {A : Type 0} (spell : A → List ℕ) (words : List A) (after : List ℕ)
    → words_text spell words ++ zero_digit ∷ after ≡ clause_text (map spell words) after
unfolding words_text
words_end spell [] after = refl
words_end spell (w ∷ ws) after =
    append_assoc (spell w ++ space ∷ []) (words_text spell ws) (zero_digit ∷ after)
    ∙ append_assoc (spell w) (space ∷ []) (words_text spell ws ++ zero_digit ∷ after)
    ∙ ap (λ t. spell w ++ space ∷ t) (words_end spell ws after)

-- a list's text is a space, its words, each followed by a space, and then 0 and LF
pub list_words : {A : Type 0} (spell : A → List ℕ) (words : List A)
    → space ∷ (words_text spell words ++ zero_digit ∷ line_feed ∷ []) ≡ list_text (map spell words)
list_words spell words = ap (λ t. space ∷ t) (words_end spell words (line_feed ∷ [])) ∙ sym (list_is_clause (map spell words))

-- a line's front, a space, the words of its list, 0 and LF are the line's whole text
list_end : (deletes : Bool) (lead : ℕ) (lits : List ℤ) (ids : List ℕ)
    → ((list_front deletes lead lits ++ space ∷ numbers_text ids) ++ zero_digit ∷ []) ++ line_feed ∷ []
    ≡ line_text (line_of_parts false deletes lead lits ids)
list_end deletes lead lits ids =
    append_assoc (list_front deletes lead lits ++ space ∷ numbers_text ids) (zero_digit ∷ []) (line_feed ∷ [])
    ∙ append_assoc (list_front deletes lead lits) (space ∷ numbers_text ids) (zero_digit ∷ line_feed ∷ [])
    ∙ ap (λ t. list_front deletes lead lits ++ t) (list_words decimal ids)
    ∙ front deletes
  where
    front : (deletes : Bool)
        → list_front deletes lead lits ++ list_text (map decimal ids) ≡ line_text (line_of_parts false deletes lead lits ids)
    front true = append_assoc (decimal lead) (space ∷ letter_d ∷ []) (list_text (map decimal ids))
    front false =
        append_assoc (clause_front false lead lits) (zero_digit ∷ []) (list_text (map decimal ids))
        ∙ append_assoc (decimal lead) (space ∷ literals_text lits) (zero_digit ∷ list_text (map decimal ids))
        ∙ ap (λ t. decimal lead ++ space ∷ t) (words_end signed_decimal lits (list_text (map decimal ids)))

pub line_end : (imports deletes : Bool) (lead : ℕ) (lits : List ℤ) (ids : List ℕ)
    → end_front imports deletes lead lits ids ++ line_feed ∷ [] ≡ line_text (line_of_parts imports deletes lead lits ids)
line_end true deletes lead lits ids =
    append_assoc (clause_front true lead lits) (zero_digit ∷ []) (line_feed ∷ [])
    ∙ append_assoc (decimal lead) (space ∷ letter_i ∷ space ∷ literals_text lits) (zero_digit ∷ line_feed ∷ [])
    ∙ ap (λ t. decimal lead ++ space ∷ letter_i ∷ t) (list_words signed_decimal lits)
line_end false deletes lead lits ids = list_end deletes lead lits ids

pub line_fits : (imports deletes : Bool) (lead : ℕ) (lits : List ℤ) (n : ℕ) (ids : List ℕ) (j : ℕ) → CanOccurInLine lead lits n ids j
    → n ≤ length lits → j ≤ length ids → IsWithinLimits (line_of_parts imports deletes lead (take n lits) (take j ids))
line_fits true deletes lead lits n ids j h n_in j_in =
    (h.lead, record { count = omega (arith, length-take-le n lits n_in, h.few_literals); each = h.literals })
line_fits false true lead lits n ids j h n_in j_in =
    (h.lead, record { count = omega (arith, length-take-le j ids j_in, h.few_identities); each = h.identities })
line_fits false false lead lits n ids j h n_in j_in = (
  h.lead,
  record { count = omega (arith, length-take-le n lits n_in, h.few_literals); each = h.literals },
  record { count = omega (arith, length-take-le j ids j_in, h.few_identities); each = h.identities },
)

-- the front of a clause grows by the text of the literals that are added
pub clause_more : (imports : Bool) (lead : ℕ) (lits longer : List ℤ) (x : List ℕ) → literals_text longer ≡ literals_text lits ++ x
    → clause_front imports lead longer ≡ clause_front imports lead lits ++ x
clause_more true lead lits longer x is = ap (λ t. decimal lead ++ space ∷ letter_i ∷ space ∷ t) is
    ∙ sym (append_assoc (decimal lead) (space ∷ letter_i ∷ space ∷ literals_text lits) x)
clause_more false lead lits longer x is = ap (λ t. decimal lead ++ space ∷ t) is
    ∙ sym (append_assoc (decimal lead) (space ∷ literals_text lits) x)

-- the front of a list grows by the text of the words that are added
pub list_more : (front : List ℕ) (ids longer x : List ℕ) → numbers_text longer ≡ numbers_text ids ++ x
    → front ++ space ∷ numbers_text longer ≡ (front ++ space ∷ numbers_text ids) ++ x
list_more front ids longer x is = ap (λ t. front ++ space ∷ t) is ∙ sym (append_assoc front (space ∷ numbers_text ids) x)

module _ (m : PartialLine) (b : ℕ) (h : IsPartialLine m) where
  -- Start

  pub start_goes_on : m.state ≡ states.Start → 49 ≤ b → b ≤ 57 → GoesOn m b (record m { number = b - 48; digits = 1; state = states.Lead })
  unfolding pending_at spot_at IsRoomy
  start_goes_on at low high =
      let next : PartialLine = record m { number = b - 48; digits = 1; state = states.Lead } in
      let is : pending next ≡ [] ++ b ∷ [] = decimal_one b (omega arith, high) in
      goes_on m next states.Start at h b h.room h.kept (first_digit b low high) tt is (start_digit b low high)

  pub start_spelling : m.state ≡ states.Start → NoFirst b → IsRefused (pending m ++ b ∷ []) Spelling
  unfolding spot_at
  start_spelling at never = spelling_at m states.Start at h b (λ signed. start_blocks signed b never)

  -- Lead

  pub lead_digit_goes_on : m.state ≡ states.Lead → IsDigit b → m.digits < 18
      → GoesOn m b (record m { number = m.number * 10 + (b - 48); digits = m.digits + 1 })
  unfolding pending_at spot_at IsRoomy
  lead_digit_goes_on at digit few =
      let next : PartialLine = record m { number = m.number * 10 + (b - 48); digits = m.digits + 1; state = states.Lead } in
      let is : pending next ≡ decimal m.number ++ b ∷ [] = decimal_next m.number m.digits b h.number few digit in
      subst (λ p. GoesOn m b (record next { state = p })) (sym at)
      (goes_on m next states.Lead at h b h.room h.kept (more_digits m.number m.digits b h.number few digit) tt is
      (lead_digit m.digits b digit))

  pub lead_space_goes_on : m.state ≡ states.Lead → b ≡ space
      → GoesOn m b (record m { lead = m.number; imports = false; literal_count = 0; identity_count = 0; state = states.Body })
  unfolding pending_at spot_at IsRoomy words_text
  lead_space_goes_on at e =
      let next : PartialLine = record m { lead = m.number; imports = false; literal_count = 0; identity_count = 0; state = states.Body } in
      let is : pending next ≡ decimal m.number ++ b ∷ [] = ap (λ x. decimal m.number ++ x ∷ []) (sym e) in
      goes_on m next states.Lead at h b h.room (record {
        lead = positive m.number m.digits h.number;
        few_literals = omega arith;
        few_identities = omega arith;
        literals = tt;
        identities = tt;
      }) h.number refl is
      (subst (λ x. Moves (InLead m.digits) x (BeforeLiteral false 0)) (sym e) (lead_space m.digits h.number.few))

  pub lead_too_long : m.state ≡ states.Lead → IsDigit b → 18 ≤ m.digits → IsRefused (pending m ++ b ∷ []) TooLong
  unfolding spot_at
  lead_too_long at digit many =
      let e : m.digits ≡ 18 = omega (arith, h.number.few) in
      long_at m states.Lead at h b (subst (λ k. Exceeds (InLead k) b) (sym e) (lead_exceeds b digit))

  pub lead_spelling : m.state ≡ states.Lead → NoDigit b → b ≢ space → IsRefused (pending m ++ b ∷ []) Spelling
  unfolding spot_at
  lead_spelling at never ne = spelling_at m states.Lead at h b (λ signed. lead_blocks signed m.digits b never ne)

  -- Import

  pub import_space_goes_on : m.state ≡ states.Import → b ≡ space → GoesOn m b (record m { state = states.Body })
  unfolding pending_at spot_at IsRoomy words_text
  import_space_goes_on at e =
      let next : PartialLine = record m { state = states.Body } in
      let roomy : (m.identity_count ≡ 0) × (m.literal_count ≡ 0) × (m.imports ≡ true) = subst (λ p. IsRoomy p m) at h.roomy in
      let empty : literals_read m ≡ [] = ap (λ n. take n m.literals.items) roomy.1 in
      let front : pending next ≡ decimal m.lead ++ space ∷ letter_i ∷ space ∷ [] = ap (λ i. clause_front i m.lead (literals_read m)) roomy.2
      ∙ ap (clause_front true m.lead) empty in
      let is : pending next ≡ (decimal m.lead ++ space ∷ letter_i ∷ []) ++ b ∷ [] =
      front ∙ ap (λ x. decimal m.lead ++ space ∷ letter_i ∷ x ∷ []) (sym e)
      ∙ sym (append_assoc (decimal m.lead) (space ∷ letter_i ∷ []) (b ∷ [])) in
      goes_on m next states.Import at h b h.room h.kept h.number roomy.0 is
      (subst (λ i. Moves AfterImport b (BeforeLiteral i m.literal_count)) (sym roomy.2)
      (subst (λ n. Moves AfterImport b (BeforeLiteral true n)) (sym roomy.1)
      (subst (λ x. Moves AfterImport x (BeforeLiteral true 0)) (sym e) import_space)))

  pub import_spelling : m.state ≡ states.Import → b ≢ space → IsRefused (pending m ++ b ∷ []) Spelling
  unfolding spot_at
  import_spelling at ne = spelling_at m states.Import at h b (λ signed. import_blocks signed b ne)

  -- Body

  pub body_hints_goes_on : m.state ≡ states.Body → b ≡ zero_digit → m.imports ≡ false
      → GoesOn m b (record m { deletes = false; state = states.List })
  unfolding pending_at spot_at IsRoomy
  body_hints_goes_on at e adds =
      let next : PartialLine = record m { deletes = false; state = states.List } in
      let is : pending next ≡ clause_front m.imports m.lead (literals_read m) ++ b ∷ [] =
      ap (λ i. clause_front i m.lead (literals_read m) ++ zero_digit ∷ []) (sym adds)
      ∙ ap (λ x. clause_front m.imports m.lead (literals_read m) ++ x ∷ []) (sym e) in
      goes_on m next states.Body at h b h.room h.kept h.number (subst (λ p. IsRoomy p m) at h.roomy, adds) is
      (subst (λ i. Moves (BeforeLiteral i m.literal_count) b (BeforeList false)) (sym adds)
      (subst (λ x. Moves (BeforeLiteral false m.literal_count) x (BeforeList false)) (sym e)
      (body_hints m.literal_count h.kept.few_literals)))

  pub body_end_goes_on : m.state ≡ states.Body → b ≡ zero_digit → m.imports ≡ true → GoesOn m b (record m { state = states.LineEnd })
  unfolding pending_at spot_at IsRoomy
  body_end_goes_on at e imports =
      let next : PartialLine = record m { state = states.LineEnd } in
      let is : pending next ≡ clause_front m.imports m.lead (literals_read m) ++ b ∷ [] =
      ap (λ i. end_front i m.deletes m.lead (literals_read m) (identities_read m)) imports
      ∙ ap (λ i. clause_front i m.lead (literals_read m) ++ zero_digit ∷ []) (sym imports)
      ∙ ap (λ x. clause_front m.imports m.lead (literals_read m) ++ x ∷ []) (sym e) in
      goes_on m next states.Body at h b h.room h.kept h.number tt is
      (subst (λ i. Moves (BeforeLiteral i m.literal_count) b AtEnd) (sym imports)
      (subst (λ x. Moves (BeforeLiteral true m.literal_count) x AtEnd) (sym e) (body_end m.literal_count h.kept.few_literals)))

  -- the front of a line that has no literals so far and isn't an import
  lead_front : m.imports ≡ false → m.literal_count ≡ 0 → clause_front m.imports m.lead (literals_read m) ≡ decimal m.lead ++ space ∷ []
  unfolding words_text
  lead_front adds few = ap (λ i. clause_front i m.lead (literals_read m)) adds
      ∙ ap (λ n. clause_front false m.lead (take n m.literals.items)) few

  letter_moves : (next : Spot) (letter : ℕ) → b ≡ letter → m.imports ≡ false → m.literal_count ≡ 0
      → Moves (BeforeLiteral false 0) letter next → Moves (BeforeLiteral m.imports m.literal_count) b next
  letter_moves next letter e adds few moves =
      subst (λ i. Moves (BeforeLiteral i m.literal_count) b next) (sym adds)
      (subst (λ n. Moves (BeforeLiteral false n) b next) (sym few) (subst (λ x. Moves (BeforeLiteral false 0) x next) (sym e) moves))

  pub body_deletion_goes_on : m.state ≡ states.Body → b ≡ letter_d → m.imports ≡ false → m.literal_count ≡ 0
      → GoesOn m b (record m { deletes = true; state = states.List })
  unfolding pending_at spot_at IsRoomy
  body_deletion_goes_on at e adds few =
      let next : PartialLine = record m { deletes = true; state = states.List } in
      let is : pending next ≡ clause_front m.imports m.lead (literals_read m) ++ b ∷ [] =
      sym (ap (λ t. t ++ b ∷ []) (lead_front adds few) ∙ append_assoc (decimal m.lead) (space ∷ []) (b ∷ [])
      ∙ ap (λ x. decimal m.lead ++ space ∷ x ∷ []) e) in
      goes_on m next states.Body at h b h.room h.kept h.number (subst (λ p. IsRoomy p m) at h.roomy, adds) is
      (letter_moves (BeforeList true) letter_d e adds few body_deletion)

  pub body_import_goes_on : m.state ≡ states.Body → b ≡ letter_i → m.imports ≡ false → m.literal_count ≡ 0
      → GoesOn m b (record m { imports = true; state = states.Import })
  unfolding pending_at spot_at IsRoomy
  body_import_goes_on at e adds few =
      let next : PartialLine = record m { imports = true; state = states.Import } in
      let is : pending next ≡ clause_front m.imports m.lead (literals_read m) ++ b ∷ [] =
      sym (ap (λ t. t ++ b ∷ []) (lead_front adds few) ∙ append_assoc (decimal m.lead) (space ∷ []) (b ∷ [])
      ∙ ap (λ x. decimal m.lead ++ space ∷ x ∷ []) e) in
      goes_on m next states.Body at h b h.room h.kept h.number (subst (λ p. IsRoomy p m) at h.roomy, few, refl) is
      (letter_moves AfterImport letter_i e adds few body_import)

  pub body_minus_goes_on : m.state ≡ states.Body → b ≡ minus → m.literal_count < 65535 → GoesOn m b (record m { state = states.Minus })
  unfolding pending_at spot_at IsRoomy
  body_minus_goes_on at e few =
      let next : PartialLine = record m { state = states.Minus } in
      let is : pending next ≡ clause_front m.imports m.lead (literals_read m) ++ b ∷ [] =
      ap (λ x. clause_front m.imports m.lead (literals_read m) ++ x ∷ []) (sym e) in
      goes_on m next states.Body at h b h.room h.kept h.number (subst (λ p. IsRoomy p m) at h.roomy, few) is
      (subst (λ x. Moves (BeforeLiteral m.imports m.literal_count) x (AfterMinus m.imports m.literal_count)) (sym e)
      (body_minus m.imports m.literal_count))

  pub body_digit_goes_on : m.state ≡ states.Body → 49 ≤ b → b ≤ 57 → m.literal_count < 65535
      → GoesOn m b (record m { negative = false; number = b - 48; digits = 1; state = states.Literal })
  unfolding pending_at spot_at IsRoomy
  body_digit_goes_on at low high few =
      let next : PartialLine = record m { negative = false; number = b - 48; digits = 1; state = states.Literal } in
      let is : pending next ≡ clause_front m.imports m.lead (literals_read m) ++ b ∷ [] =
      ap (λ t. clause_front m.imports m.lead (literals_read m) ++ t) (decimal_one b (omega arith, high)) in
      goes_on m next states.Body at h b h.room h.kept (first_digit b low high) (subst (λ p. IsRoomy p m) at h.roomy, few) is
      (body_digit m.imports m.literal_count b low high)

  pub body_too_long : m.state ≡ states.Body → m.literal_count ≡ 65535 → (b ≢ minus → (49 ≤ b) × (b ≤ 57))
      → IsRefused (pending m ++ b ∷ []) TooLong
  unfolding spot_at
  body_too_long at many kind = long_at m states.Body at h b (subst (λ n. Exceeds (BeforeLiteral m.imports n) b) (sym many) (exceeds b kind))
    where
      exceeds : (x : ℕ) → (x ≢ minus → (49 ≤ x) × (x ≤ 57)) → Exceeds (BeforeLiteral m.imports 65535) x
      exceeds x kind = elim (cases_eq x minus) [
        | inl e ↦ subst (Exceeds (BeforeLiteral m.imports 65535)) (sym e) (body_exceeds_minus m.imports)
        | inr ne ↦ body_exceeds_digit m.imports x (kind ne).0 (kind ne).1
      ]

  pub body_spelling : m.state ≡ states.Body → b ≢ zero_digit → b ≢ minus → NoFirst b
      → (m.literal_count ≡ 0 → m.imports ≡ false → (b ≢ letter_d) × (b ≢ letter_i)) → IsRefused (pending m ++ b ∷ []) Spelling
  unfolding spot_at
  body_spelling at not_zero not_minus never no_letter =
      spelling_at m states.Body at h b (λ signed. body_blocks signed m.imports m.literal_count b not_zero not_minus never no_letter)

  -- Minus

  pub minus_goes_on : m.state ≡ states.Minus → 49 ≤ b → b ≤ 57
      → GoesOn m b (record m { negative = true; number = b - 48; digits = 1; state = states.Literal })
  unfolding pending_at spot_at IsRoomy
  minus_goes_on at low high =
      let next : PartialLine = record m { negative = true; number = b - 48; digits = 1; state = states.Literal } in
      let front = clause_front m.imports m.lead (literals_read m) in
      let is : pending next ≡ (front ++ minus ∷ []) ++ b ∷ [] =
      ap (λ t. front ++ minus ∷ t) (decimal_one b (omega arith, high)) ∙ sym (append_assoc front (minus ∷ []) (b ∷ [])) in
      goes_on m next states.Minus at h b h.room h.kept (first_digit b low high) (subst (λ p. IsRoomy p m) at h.roomy) is
      (minus_digit m.imports m.literal_count b low high)

  pub minus_spelling : m.state ≡ states.Minus → NoFirst b → IsRefused (pending m ++ b ∷ []) Spelling
  unfolding spot_at
  minus_spelling at never = spelling_at m states.Minus at h b (λ signed. minus_blocks signed m.imports m.literal_count b never)

  -- Literal

  -- one more digit extends the literal's text by its byte
  literal_more : (negative : Bool) (n k : ℕ) → FitsDigits n k → k < 18 → IsDigit b
      → literal_front negative (n * 10 + (b - 48)) ≡ literal_front negative n ++ b ∷ []
  literal_more true n k number few digit = ap (λ t. minus ∷ t) (decimal_next n k b number few digit)
  literal_more false n k number few digit = decimal_next n k b number few digit

  pub literal_digit_goes_on : m.state ≡ states.Literal → IsDigit b → m.digits < 18
      → GoesOn m b (record m { number = m.number * 10 + (b - 48); digits = m.digits + 1 })
  unfolding pending_at spot_at IsRoomy
  literal_digit_goes_on at digit few =
      let next : PartialLine = record m { number = m.number * 10 + (b - 48); digits = m.digits + 1; state = states.Literal } in
      let front = clause_front m.imports m.lead (literals_read m) in
      let is : pending next ≡ (front ++ literal_front m.negative m.number) ++ b ∷ [] =
      ap (λ t. front ++ t) (literal_more m.negative m.number m.digits h.number few digit)
      ∙ sym (append_assoc front (literal_front m.negative m.number) (b ∷ [])) in
      subst (λ p. GoesOn m b (record next { state = p })) (sym at)
      (goes_on m next states.Literal at h b h.room h.kept (more_digits m.number m.digits b h.number few digit)
      (subst (λ p. IsRoomy p m) at h.roomy) is (literal_digit m.imports m.digits m.literal_count b digit))

  -- the buffer has room for the literal
  pub literal_room : m.state ≡ states.Literal → m.literal_count < vec_len m.literals
  unfolding IsRoomy
  literal_room at =
      let roomy : (m.identity_count ≡ 0) × (m.literal_count < 65535) = subst (λ p. IsRoomy p m) at h.roomy in
      omega (arith, h.room.literals, m.literals.ok.0)

  pub literal_space_goes_on : (v : Vec ℤ Global) (z : ℤ) → v.items ≡ slice_set m.literals.items m.literal_count z
      → signed_decimal z ≡ literal_front m.negative m.number → unsigned_abs z ≡ m.number
      → m.state ≡ states.Literal → b ≡ space
      → GoesOn m b (record m { literals = v; literal_count = m.literal_count + 1; state = states.Body })
  unfolding pending_at spot_at IsRoomy words_text
  literal_space_goes_on v z items value magnitude at e =
      let next : PartialLine = record m { literals = v; literal_count = m.literal_count + 1; state = states.Body } in
      let roomy : (m.identity_count ≡ 0) × (m.literal_count < 65535) = subst (λ p. IsRoomy p m) at h.roomy in
      let count : length m.literals.items ≡ 65535 = h.room.literals in
      let more : literals_read next ≡ literals_read m ++ z ∷ [] =
      ap (take (m.literal_count + 1)) items ∙ take_more_set m.literals.items m.literal_count z (omega arith) in
      let front = clause_front m.imports m.lead (literals_read m) in
      let word = literal_front m.negative m.number in
      let texts : literals_text (literals_read next) ≡ literals_text (literals_read m) ++ (word ++ space ∷ []) =
      ap literals_text more ∙ text_more (λ x. signed_decimal x ++ space ∷ []) (literals_read m) z
      ∙ ap (λ t. literals_text (literals_read m) ++ (t ++ space ∷ [])) value in
      let is : pending next ≡ (front ++ word) ++ b ∷ [] =
      clause_more m.imports m.lead (literals_read m) (literals_read next) (word ++ space ∷ []) texts
      ∙ sym (append_assoc front word (space ∷ []))
      ∙ ap (λ x. (front ++ word) ++ x ∷ []) (sym e) in
      let literal : IsStreamLiteral z = subst IsStreamNumber (sym magnitude) (positive m.number m.digits h.number) in
      goes_on m next states.Literal at h b (record {
        literals = ap length items ∙ length-set m.literals.items m.literal_count z ∙ count;
        identities = h.room.identities;
      }) (record {
        lead = h.kept.lead;
        few_literals = omega arith;
        few_identities = h.kept.few_identities;
        identities = h.kept.identities;
        literals =
            subst (AllByRecursion IsStreamLiteral) (sym more) (All-push IsStreamLiteral (literals_read m) z h.kept.literals literal);
      }) h.number roomy.0 is
      (subst (λ x. Moves (InLiteral m.imports m.digits m.literal_count) x (BeforeLiteral m.imports (m.literal_count + 1))) (sym e)
      (literal_space m.imports m.digits m.literal_count h.number.few))

  pub literal_too_long : m.state ≡ states.Literal → IsDigit b → 18 ≤ m.digits → IsRefused (pending m ++ b ∷ []) TooLong
  unfolding spot_at IsRoomy
  literal_too_long at digit many =
      let e : m.digits ≡ 18 = omega (arith, h.number.few) in
      let roomy : (m.identity_count ≡ 0) × (m.literal_count < 65535) = subst (λ p. IsRoomy p m) at h.roomy in
      long_at m states.Literal at h b
      (subst (λ k. Exceeds (InLiteral m.imports k m.literal_count) b) (sym e) (literal_exceeds m.imports m.literal_count b roomy.1 digit))

  pub literal_spelling : m.state ≡ states.Literal → NoDigit b → b ≢ space → IsRefused (pending m ++ b ∷ []) Spelling
  unfolding spot_at
  literal_spelling at never ne =
      spelling_at m states.Literal at h b (λ signed. literal_blocks signed m.imports m.digits m.literal_count b never ne)

  -- List

  pub list_goes_on : m.state ≡ states.List → b ≡ space → GoesOn m b (record m { state = states.Item })
  unfolding pending_at spot_at IsRoomy words_text
  list_goes_on at e =
      let next : PartialLine = record m { state = states.Item } in
      let front = list_front m.deletes m.lead (literals_read m) in
      let roomy : (m.identity_count ≡ 0) × (m.imports ≡ false) = subst (λ p. IsRoomy p m) at h.roomy in
      let none : m.identity_count ≡ 0 = roomy.0 in
      let empty : item_front m ≡ front ++ space ∷ [] = ap (λ n. front ++ space ∷ numbers_text (take n m.identities.items)) none in
      let is : pending next ≡ front ++ b ∷ [] = empty ∙ ap (λ x. front ++ x ∷ []) (sym e) in
      goes_on m next states.List at h b h.room h.kept h.number roomy.1 is
      (subst (λ n. Moves (BeforeList m.deletes) b (BeforeItem m.deletes n)) (sym none)
      (subst (λ x. Moves (BeforeList m.deletes) x (BeforeItem m.deletes 0)) (sym e) (list_space m.deletes)))

  pub list_spelling : m.state ≡ states.List → b ≢ space → IsRefused (pending m ++ b ∷ []) Spelling
  unfolding spot_at
  list_spelling at ne = spelling_at m states.List at h b (λ signed. list_blocks signed m.deletes b ne)

  -- Item

  pub item_zero_goes_on : m.state ≡ states.Item → b ≡ zero_digit → GoesOn m b (record m { state = states.LineEnd })
  unfolding pending_at spot_at IsRoomy
  item_zero_goes_on at e =
      let next : PartialLine = record m { state = states.LineEnd } in
      let lists : m.imports ≡ false = subst (λ p. IsRoomy p m) at h.roomy in
      let is : pending next ≡ item_front m ++ b ∷ [] =
      ap (λ i. end_front i m.deletes m.lead (literals_read m) (identities_read m)) lists ∙ ap (λ x. item_front m ++ x ∷ []) (sym e) in
      goes_on m next states.Item at h b h.room h.kept h.number tt is
      (subst (λ x. Moves (BeforeItem m.deletes m.identity_count) x AtEnd) (sym e)
      (item_zero m.deletes m.identity_count h.kept.few_identities))

  pub item_digit_goes_on : m.state ≡ states.Item → 49 ≤ b → b ≤ 57 → m.identity_count < 65536
      → GoesOn m b (record m { number = b - 48; digits = 1; state = states.Number })
  unfolding pending_at spot_at IsRoomy
  item_digit_goes_on at low high few =
      let next : PartialLine = record m { number = b - 48; digits = 1; state = states.Number } in
      let is : pending next ≡ item_front m ++ b ∷ [] = ap (λ t. item_front m ++ t) (decimal_one b (omega arith, high)) in
      goes_on m next states.Item at h b h.room h.kept (first_digit b low high) (few, subst (λ p. IsRoomy p m) at h.roomy) is
      (item_digit m.deletes m.identity_count b low high)

  pub item_too_long : m.state ≡ states.Item → 49 ≤ b → b ≤ 57 → m.identity_count ≡ 65536 → IsRefused (pending m ++ b ∷ []) TooLong
  unfolding spot_at
  item_too_long at low high many =
      long_at m states.Item at h b (subst (λ n. Exceeds (BeforeItem m.deletes n) b) (sym many) (item_exceeds m.deletes b low high))

  pub item_rat : m.state ≡ states.Item → b ≡ minus → m.deletes ≡ false → IsRefused (pending m ++ b ∷ []) RatHint
  unfolding spot_at
  item_rat at e keeps =
      decides_rat (pending m) (spot_at m.state m) b h.tracks (bounded m h)
      (subst (λ p. Blocks false (spot_at p m) b) (sym at)
      (item_blocks false m.deletes m.identity_count b (λ z. let e' : minus ≡ zero_digit = sym e ∙ z in absurd (omega arith))
      (λ low high. let e' : b ≡ minus = e in omega arith) (λ _ _ s. cc)))
      (subst (λ p. Allows true (spot_at p m) b) (sym at)
      (subst (λ x. Allows true (BeforeItem m.deletes m.identity_count) x) (sym e)
      (subst (λ d. Allows true (BeforeItem d m.identity_count) minus) (sym keeps) (hint_allows m.identity_count h.kept.few_identities))))

  pub item_spelling : m.state ≡ states.Item → b ≢ zero_digit → NoFirst b → (b ≡ minus → m.deletes ≡ true)
      → IsRefused (pending m ++ b ∷ []) Spelling
  unfolding spot_at
  item_spelling at not_zero never deletes =
      spelling_at m states.Item at h b (λ signed. item_blocks signed m.deletes m.identity_count b not_zero never
      (λ e keeps s. let both : true ≡ false = sym (deletes e) ∙ keeps in cc))

  -- Number

  pub number_digit_goes_on : m.state ≡ states.Number → IsDigit b → m.digits < 18
      → GoesOn m b (record m { number = m.number * 10 + (b - 48); digits = m.digits + 1 })
  unfolding pending_at spot_at IsRoomy
  number_digit_goes_on at digit few =
      let next : PartialLine = record m { number = m.number * 10 + (b - 48); digits = m.digits + 1; state = states.Number } in
      let is : pending next ≡ (item_front m ++ decimal m.number) ++ b ∷ [] =
      ap (λ t. item_front m ++ t) (decimal_next m.number m.digits b h.number few digit)
      ∙ sym (append_assoc (item_front m) (decimal m.number) (b ∷ [])) in
      subst (λ p. GoesOn m b (record next { state = p })) (sym at)
      (goes_on m next states.Number at h b h.room h.kept (more_digits m.number m.digits b h.number few digit)
      (subst (λ p. IsRoomy p m) at h.roomy) is (number_digit m.deletes m.digits m.identity_count b digit))

  pub number_room : m.state ≡ states.Number → m.identity_count < vec_len m.identities
  unfolding IsRoomy
  number_room at =
      let roomy : (m.identity_count < 65536) × (m.imports ≡ false) = subst (λ p. IsRoomy p m) at h.roomy in
      omega (arith, h.room.identities, m.identities.ok.0)

  pub number_space_goes_on : (v : Vec ℕ Global) → v.items ≡ slice_set m.identities.items m.identity_count m.number
      → m.state ≡ states.Number → b ≡ space
      → GoesOn m b (record m { identities = v; identity_count = m.identity_count + 1; state = states.Item })
  unfolding pending_at spot_at IsRoomy words_text
  number_space_goes_on v items at e =
      let next : PartialLine = record m { identities = v; identity_count = m.identity_count + 1; state = states.Item } in
      let roomy : (m.identity_count < 65536) × (m.imports ≡ false) = subst (λ p. IsRoomy p m) at h.roomy in
      let count : length m.identities.items ≡ 65536 = h.room.identities in
      let more : identities_read next ≡ identities_read m ++ m.number ∷ [] =
      ap (take (m.identity_count + 1)) items ∙ take_more_set m.identities.items m.identity_count m.number (omega arith) in
      let word = decimal m.number in
      let texts : numbers_text (identities_read next) ≡ numbers_text (identities_read m) ++ (word ++ space ∷ []) =
      ap numbers_text more ∙ text_more (λ n. decimal n ++ space ∷ []) (identities_read m) m.number in
      let is : pending next ≡ (item_front m ++ word) ++ b ∷ [] =
      list_more (list_front m.deletes m.lead (literals_read m)) (identities_read m) (identities_read next) (word ++ space ∷ []) texts
      ∙ sym (append_assoc (item_front m) word (space ∷ [])) ∙ ap (λ x. (item_front m ++ word) ++ x ∷ []) (sym e) in
      goes_on m next states.Number at h b (record {
        literals = h.room.literals;
        identities = ap length items ∙ length-set m.identities.items m.identity_count m.number ∙ count;
      }) (record {
        lead = h.kept.lead;
        few_literals = h.kept.few_literals;
        few_identities = omega arith;
        literals = h.kept.literals;
        identities = subst (AllByRecursion IsStreamNumber) (sym more)
            (All-push IsStreamNumber (identities_read m) m.number h.kept.identities (positive m.number m.digits h.number));
      }) h.number roomy.1 is
      (subst (λ x. Moves (InItem m.deletes m.digits m.identity_count) x (BeforeItem m.deletes (m.identity_count + 1))) (sym e)
      (number_space m.deletes m.digits m.identity_count h.number.few))

  pub number_too_long : m.state ≡ states.Number → IsDigit b → 18 ≤ m.digits → IsRefused (pending m ++ b ∷ []) TooLong
  unfolding spot_at IsRoomy
  number_too_long at digit many =
      let e : m.digits ≡ 18 = omega (arith, h.number.few) in
      let roomy : (m.identity_count < 65536) × (m.imports ≡ false) = subst (λ p. IsRoomy p m) at h.roomy in
      long_at m states.Number at h b
      (subst (λ k. Exceeds (InItem m.deletes k m.identity_count) b) (sym e) (number_exceeds m.deletes m.identity_count b roomy.0 digit))

  pub number_spelling : m.state ≡ states.Number → NoDigit b → b ≢ space → IsRefused (pending m ++ b ∷ []) Spelling
  unfolding spot_at
  number_spelling at never ne =
      spelling_at m states.Number at h b (λ signed. number_blocks signed m.deletes m.digits m.identity_count b never ne)

  -- LineEnd

  pub end_spelling : m.state ≡ states.LineEnd → b ≢ line_feed → IsRefused (pending m ++ b ∷ []) Spelling
  unfolding spot_at
  end_spelling at ne = spelling_at m states.LineEnd at h b (λ signed. end_blocks signed b ne)

  -- the line is complete, and the next may begin
  pub end_ends : m.state ≡ states.LineEnd → b ≡ line_feed
      → let next : PartialLine = record m { state = states.Start } in
      IsPartialLine next × (pending next ≡ []) × LineText (line_so_far next) (pending m ++ b ∷ [])
  unfolding pending_at spot_at IsRoomy
  end_ends at e = (
    record { room = h.room; kept = h.kept; number = h.number; roomy = tt; tracks = at_start },
    refl,
    (
      line_fits m.imports m.deletes m.lead m.literals.items m.literal_count m.identities.items m.identity_count h.kept
          (omega (arith, h.room.literals, h.kept.few_literals)) (omega (arith, h.room.identities, h.kept.few_identities)),
      ap (λ p. pending_at p m ++ b ∷ []) at
          ∙ ap (λ x. end_front m.imports m.deletes m.lead (literals_read m) (identities_read m) ++ x ∷ []) e
          ∙ line_end m.imports m.deletes m.lead (literals_read m) (identities_read m),
    ),
  )
