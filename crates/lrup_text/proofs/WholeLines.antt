-- A whole line, read in one go.
use Rattle.std.proofs.Common.{◌≡◌, ℕ, ℤ, unsigned_abs, ◌+◌, ◌-◌, ◌*◌, ◌%◌, ◌^◌, ◌<◌, ◌≤◌, inl, inr, Bool, true, false, List, [], ◌∷◌}
use Rattle.std.proofs.Common.{◌++◌, length, take, get_or, set, refl, sym, ◌∙◌, ap, subst, arith}
use Rattle.std.specs.Fmt.{decimal, signed_decimal}
use Rattle.std.specs.List.{AllByRecursion}
use Rattle.std.proofs.Math.Nat.{mod-eq_of_lt}
use Rattle.std.proofs.lemmas.Bool.{cases_lt}
use Rattle.std.proofs.lemmas.List.{append_assoc, take_more, take_more_set, length-set, take_all, append-nil, length-take-le, take-take}
use Rattle.lrup_model.specs.lemmas.ListLemmas.{All-push}
use Rattle.lrup_text.specs.Writing.{space}
use Rattle.lrup_text.specs.internal.ByteNames.{minus, zero_digit, letter_d, letter_i, line_feed}
use Rattle.lrup_text.specs.Lines.{IsStreamNumber, IsStreamLiteral}
use Rattle.lrup_text.specs.internal.Kernel.{EndsLine, EndsWord, ReadsNumber, ReadsWord, ReadsWords, ReadsList, IsWhole}
use Rattle.lrup_text.specs.internal.Reading.{FitsDigits, CanOccurInLine, words_text, literals_text, numbers_text, literal_front}
use Rattle.lrup_text.specs.internal.Reading.{clause_front, list_front}
use Rattle.lrup_text.proofs.Numerals.{decimal_one}
use Rattle.lrup_text.proofs.Bytes.{first_digit, more_digits, decimal_next, below_limit, positive, text_more, line_end, line_fits}

-- a byte of a word isn't the last byte
pub inside_word : (text : List ℕ) (at : ℕ) → EndsWord text → at < length text → space < get_or text at 0 → at + 1 < length text
inside_word text at ends inside above = elim (cases_lt (at + 1) (length text)) [
  | inl less ↦ less
  | inr least ↦ let last : at ≡ length text - 1 = omega arith in
      absurd (omega (arith, ends.1, subst (λ k. space < get_or text k 0) last above))
]

-- The digits of a number from `start` up to `end`.
pub record SoFar (line : List ℕ) (start number end : ℕ) : Type 0 where
  pub after : start < end
  pub inside : end < length line
  pub exact : end - start ≤ 18 → FitsDigits number (end - start) × (take end line ≡ take start line ++ decimal number)

pub first_so_far : (line : List ℕ) (start : ℕ) → EndsWord line → start < length line → 49 ≤ get_or line start 0 → get_or line start 0 ≤ 57
    → SoFar line start (get_or line start 0 - 48) (start + 1)
first_so_far line start ends inside low high =
    let byte = get_or line start 0 in
    let one : (start + 1) - start ≡ 1 = omega arith in
    record {
      after = omega arith;
      inside = inside_word line start ends inside (omega arith);
      exact = λ few. (
        subst (FitsDigits (byte - 48)) (sym one) (first_digit byte low high),
        take_more line start 0 inside ∙ ap (λ t. take start line ++ t) (sym (decimal_one byte (omega arith, high))),
      );
    }

pub more_so_far : (line : List ℕ) (start number end next : ℕ) → EndsWord line → SoFar line start number end → 48 ≤ get_or line end 0
    → get_or line end 0 ≤ 57 → (end - start < 18 → next ≡ number * 10 + (get_or line end 0 - 48)) → SoFar line start next (end + 1)
more_so_far line start number end next ends so low high is =
    let byte = get_or line end 0 in
    let one : (end + 1) - start ≡ (end - start) + 1 = omega (arith, so.after) in
    record {
      after = omega (arith, so.after);
      inside = inside_word line end ends so.inside (omega arith);
      exact = λ few.
          let less : end - start < 18 = omega (arith, one) in
          let old = so.exact (omega (arith, less)) in
          let number_is = is less in (
            rw (one, number_is) (more_digits number (end - start) byte old.0 less (low, high)),
            take_more line end 0 so.inside ∙ ap (λ t. t ++ byte ∷ []) old.1 ∙ append_assoc (take start line) (decimal number) (byte ∷ [])
                ∙ ap (λ t. take start line ++ t)
                (sym (ap decimal number_is ∙ decimal_next number (end - start) byte old.0 less (low, high))),
          );
    }

-- if there are fewer than 18 digits, one more doesn't make the number overflow
pub wrapped : (line : List ℕ) (start number end digit : ℕ) → SoFar line start number end → 48 ≤ get_or line end 0 → get_or line end 0 ≤ 57
    → digit ≡ get_or line end 0 - 48 → end - start < 18 → (number * 10 % 2 ^ 64 + digit) % 2 ^ 64 ≡ number * 10 + (get_or line end 0 - 48)
wrapped line start number end digit so low high is few =
    let byte = get_or line end 0 in
    let old = (so.exact (omega (arith, few))).0 in
    let fits : number * 10 + (byte - 48) < 10 ^ 18 =
    below_limit (number * 10 + (byte - 48)) ((end - start) + 1) (more_digits number (end - start) byte old few (low, high)) in
    let product : number * 10 % 2 ^ 64 ≡ number * 10 = mod-eq_of_lt (omega (arith, fits)) in
    ap (λ x. (number * 10 % 2 ^ 64 + x) % 2 ^ 64) is ∙ ap (λ x. (x + (byte - 48)) % 2 ^ 64) product ∙ mod-eq_of_lt (omega (arith, fits))

pub number_read : (line : List ℕ) (start number end : ℕ) → SoFar line start number end → end - start ≤ 18
    → ReadsNumber line start number end
number_read line start number end so few = record {
  fits = positive number (end - start) (so.exact few).0;
  after = so.after;
  inside = so.inside;
  is = (so.exact few).1;
}

-- the sign before a literal's number
abbrev pub sign_text : Bool → List ℕ
sign_text true = minus ∷ []
sign_text false = []

sign_literal : (negative : Bool) (n : ℕ) → sign_text negative ++ decimal n ≡ literal_front negative n
sign_literal true n = refl
sign_literal false n = refl

pub sign_there : (line : List ℕ) (at digits : ℕ) (negative : Bool) → at < length line → negative ≡ true → get_or line at 0 ≡ minus
    → digits ≡ at + 1 → (at ≤ digits) × (take digits line ≡ take at line ++ sign_text negative)
sign_there line at digits negative inside signed is e = (
  omega (arith, e),
  ap (λ k. take k line) e ∙ take_more line at 0 inside ∙ ap (λ x. take at line ++ x ∷ []) is
      ∙ ap (λ b. take at line ++ sign_text b) (sym signed),
)

pub sign_absent : (line : List ℕ) (at digits : ℕ) (negative : Bool) → negative ≡ false → digits ≡ at
    → (at ≤ digits) × (take digits line ≡ take at line ++ sign_text negative)
sign_absent line at digits negative none e = (
  omega (arith, e),
  ap (λ k. take k line) e ∙ sym (append-nil (take at line)) ∙ ap (λ b. take at line ++ sign_text b) (sym none),
)

-- a number, with or without a sign before it, is a literal
pub literal_read : (text : List ℕ) (start : ℕ) (negative : Bool) (digits magnitude end : ℕ) (z : ℤ) → start ≤ digits
    → take digits text ≡ take start text ++ sign_text negative → ReadsNumber text digits magnitude end
    → signed_decimal z ≡ literal_front negative magnitude → unsigned_abs z ≡ magnitude
    → ReadsWord signed_decimal IsStreamLiteral text start z end
literal_read text start negative digits magnitude end z before sign number value size = record {
  fits = subst IsStreamNumber (sym size) number.fits;
  after = omega (arith, before, number.after);
  inside = number.inside;
  is = number.is ∙ ap (λ t. t ++ decimal magnitude) sign ∙ append_assoc (take start text) (sign_text negative) (decimal magnitude)
      ∙ ap (λ t. take start text ++ t) (sign_literal negative magnitude ∙ sym value);
}

module _ {A : Type 0} (spell : A → List ℕ) (Fits : A → Type 0) (text : List ℕ) where
  -- `ReadsWords` holds before the first word has been read
  pub words_start : (start : ℕ) (words : List A) (first : ℕ) → start ≤ length text → first ≤ length words
      → ReadsWords spell Fits text start words first words first start
  unfolding words_text
  words_start start words first inside room = record {
    more = [];
    few = room;
    words = sym (append-nil (take first words));
    each = tt;
    inside = inside;
    is = sym (append-nil (take start text));
  }

  -- one more word, and the space after it
  pub words_next : (start : ℕ) (old words : List A) (first count at : ℕ) (word : A) (end : ℕ)
      → ReadsWords spell Fits text start old first words count at → ReadsWord spell Fits text at word end → get_or text end 0 ≡ space
      → count < length words → ReadsWords spell Fits text start old first (set words count word) (count + 1) (end + 1)
  unfolding words_text
  words_next start old words first count at word end so read is room =
      let front = take start text ++ words_text spell so.more in
      record {
        more = so.more ++ word ∷ [];
        few = omega (arith, length-set words count word, room);
        words = take_more_set words count word room ∙ ap (λ t. t ++ word ∷ []) so.words
            ∙ append_assoc (take first old) so.more (word ∷ []);
        each = All-push Fits so.more word so.each read.fits;
        inside = omega (arith, read.inside);
        is =
            take_more text end 0 read.inside
            ∙ ap (λ x. take end text ++ x ∷ []) is
            ∙ ap (λ t. t ++ space ∷ []) (read.is ∙ ap (λ t. t ++ spell word) so.is)
            ∙ append_assoc front (spell word) (space ∷ [])
            ∙ append_assoc (take start text) (words_text spell so.more) (spell word ++ space ∷ [])
            ∙ ap (λ t. take start text ++ t) (sym (text_more (λ w. spell w ++ space ∷ []) so.more word));
      }

  -- words read from a prefix of the text are words of the text
  pub words_ahead : (last : ℕ) (old new : List A) (first count used : ℕ) → last ≤ length text
      → ReadsWords spell Fits (take last text) 0 old first new count used → ReadsWords spell Fits text 0 old first new count used
  words_ahead last old new first count used inside found = record {
    more = found.more;
    few = found.few;
    words = found.words;
    each = found.each;
    inside = omega (arith, found.inside, length-take-le last text inside);
    is = sym (take-take used last text (omega (arith, found.inside, length-take-le last text inside))) ∙ found.is;
  }

  -- A list: a space, its words, a 0 and the LF.
  pub list_read : (start : ℕ) (old new : List A) (count close : ℕ) → EndsLine text → start < length text
      → get_or text start 0 ≡ space → ReadsWords spell Fits text (start + 1) old 0 new count close
      → close + 2 ≡ length text → get_or text close 0 ≡ zero_digit → ReadsList spell Fits text start new count
  list_read start old new count close ends inside is found size nought =
      let last : length text - 1 ≡ close + 1 = omega arith in
      let feed : get_or text (close + 1) 0 ≡ line_feed = ap (λ k. get_or text k 0) (sym last) ∙ ends.1 in
      let front = take start text in
      let end = zero_digit ∷ line_feed ∷ [] in
      let one : take (start + 1) text ≡ front ++ space ∷ [] = take_more text start 0 inside ∙ ap (λ x. front ++ x ∷ []) is in
      let two : take (close + 1) text ≡ take close text ++ zero_digit ∷ [] = take_more text close 0 (omega arith)
      ∙ ap (λ x. take close text ++ x ∷ []) nought in
      let three : take ((close + 1) + 1) text ≡ (take close text ++ zero_digit ∷ []) ++ line_feed ∷ [] =
      take_more text (close + 1) 0 (omega arith) ∙ ap (λ x. take (close + 1) text ++ x ∷ []) feed ∙ ap (λ t. t ++ line_feed ∷ []) two in
      record {
        few = found.few;
        each = subst (AllByRecursion Fits) (sym found.words) found.each;
        text =
            sym (take_all ((close + 1) + 1) text (omega arith)) ∙ three ∙ append_assoc (take close text) (zero_digit ∷ []) (line_feed ∷ [])
            ∙ ap (λ t. t ++ end) (found.is ∙ ap (λ t. t ++ words_text spell found.more) one
            ∙ append_assoc front (space ∷ []) (words_text spell found.more))
            ∙ ap (λ ws. (front ++ space ∷ words_text spell ws) ++ end) (sym found.words);
      }

-- An import: a number, a space, the letter i, literals.
pub whole_import : (line : List ℕ) (lits : List ℤ) (ids : List ℕ) (lead end count : ℕ) → length lits ≡ 65535 → ReadsNumber line 0 lead end
    → get_or line end 0 ≡ space → end + 1 < length line → get_or line (end + 1) 0 ≡ letter_i
    → ReadsList signed_decimal IsStreamLiteral line ((end + 1) + 1) lits count
    → IsWhole line lits ids (record { lead = lead; imports = true; deletes = false; literal_count = count; identity_count = 0 })
whole_import line lits ids lead end count room number is inside letter clause =
    let kept : CanOccurInLine lead lits count ids 0 = record {
      lead = number.fits;
      few_literals = omega (arith, clause.few, room);
      few_identities = omega arith;
      literals = clause.each;
      identities = tt;
    } in
    let mark : take ((end + 1) + 1) line ≡ decimal lead ++ space ∷ letter_i ∷ [] =
    take_more line (end + 1) 0 inside ∙ ap (λ x. take (end + 1) line ++ x ∷ []) letter
    ∙ ap (λ t. t ++ letter_i ∷ []) (take_more line end 0 number.inside ∙ ap (λ x. take end line ++ x ∷ []) is
    ∙ ap (λ t. t ++ space ∷ []) number.is)
    ∙ append_assoc (decimal lead) (space ∷ []) (letter_i ∷ []) in
    let front : take ((end + 1) + 1) line ++ space ∷ literals_text (take count lits) ≡ clause_front true lead (take count lits) =
    ap (λ t. t ++ space ∷ literals_text (take count lits)) mark
    ∙ append_assoc (decimal lead) (space ∷ letter_i ∷ []) (space ∷ literals_text (take count lits)) in
    record {
      kept = kept;
      text = (
        line_fits true false lead lits count ids 0 kept clause.few (omega arith),
        clause.text ∙ ap (λ t. t ++ zero_digit ∷ line_feed ∷ []) front
            ∙ sym (append_assoc (clause_front true lead (take count lits)) (zero_digit ∷ []) (line_feed ∷ []))
            ∙ line_end true false lead (take count lits) [],
      );
    }

-- A deletion: a number, a space, the letter d, a list.
pub whole_deletion : (line : List ℕ) (lits : List ℤ) (ids : List ℕ) (lead end count : ℕ) → length ids ≡ 65536 → ReadsNumber line 0 lead end
    → get_or line end 0 ≡ space → end + 1 < length line → get_or line (end + 1) 0 ≡ letter_d
    → ReadsList decimal IsStreamNumber line ((end + 1) + 1) ids count
    → IsWhole line lits ids (record { lead = lead; imports = false; deletes = true; literal_count = 0; identity_count = count })
whole_deletion line lits ids lead end count room number is inside letter list =
    let kept : CanOccurInLine lead lits 0 ids count = record {
      lead = number.fits;
      few_literals = omega arith;
      few_identities = omega (arith, list.few, room);
      literals = tt;
      identities = list.each;
    } in
    let front : take ((end + 1) + 1) line ≡ list_front true lead [] =
    take_more line (end + 1) 0 inside ∙ ap (λ x. take (end + 1) line ++ x ∷ []) letter
    ∙ ap (λ t. t ++ letter_d ∷ []) (take_more line end 0 number.inside ∙ ap (λ x. take end line ++ x ∷ []) is
    ∙ ap (λ t. t ++ space ∷ []) number.is)
    ∙ append_assoc (decimal lead) (space ∷ []) (letter_d ∷ []) in
    record {
      kept = kept;
      text = (
        line_fits false true lead lits 0 ids count kept (omega arith) list.few,
        list.text ∙ ap (λ t. (t ++ space ∷ numbers_text (take count ids)) ++ zero_digit ∷ line_feed ∷ []) front
            ∙ sym (append_assoc (list_front true lead [] ++ space ∷ numbers_text (take count ids)) (zero_digit ∷ []) (line_feed ∷ []))
            ∙ line_end false true lead [] (take count ids),
      );
    }

-- An addition: a number, a space, literals, a 0, a list.
pub whole_addition : (line : List ℕ) (old lits : List ℤ) (ids : List ℕ) (lead end literals close count : ℕ) → length lits ≡ 65535
    → length ids ≡ 65536 → ReadsNumber line 0 lead end → get_or line end 0 ≡ space
    → ReadsWords signed_decimal IsStreamLiteral line (end + 1) old 0 lits literals close → close < length line
    → get_or line close 0 ≡ zero_digit → ReadsList decimal IsStreamNumber line (close + 1) ids count
    → IsWhole line lits ids (record { lead = lead; imports = false; deletes = false; literal_count = literals; identity_count = count })
whole_addition line old lits ids lead end literals close count room_lits room_ids number is clause inside nought list =
    let kept : CanOccurInLine lead lits literals ids count = record {
      lead = number.fits;
      few_literals = omega (arith, clause.few, room_lits);
      few_identities = omega (arith, list.few, room_ids);
      literals = subst (AllByRecursion IsStreamLiteral) (sym clause.words) clause.each;
      identities = list.each;
    } in
    let front : take (close + 1) line ≡ list_front false lead (take literals lits) =
    take_more line close 0 inside ∙ ap (λ x. take close line ++ x ∷ []) nought
    ∙ ap (λ t. t ++ zero_digit ∷ []) (clause.is
    ∙ ap (λ t. t ++ literals_text clause.more) (take_more line end 0 number.inside ∙ ap (λ x. take end line ++ x ∷ []) is
    ∙ ap (λ t. t ++ space ∷ []) number.is)
    ∙ append_assoc (decimal lead) (space ∷ []) (literals_text clause.more)
    ∙ ap (λ zs. decimal lead ++ space ∷ literals_text zs) (sym clause.words)) in
    record {
      kept = kept;
      text = (
        line_fits false false lead lits literals ids count kept clause.few list.few,
        list.text ∙ ap (λ t. (t ++ space ∷ numbers_text (take count ids)) ++ zero_digit ∷ line_feed ∷ []) front
            ∙ sym (append_assoc (list_front false lead (take literals lits) ++ space ∷ numbers_text (take count ids)) (zero_digit ∷ [])
            (line_feed ∷ []))
            ∙ line_end false false lead (take literals lits) (take count ids),
      );
    }
