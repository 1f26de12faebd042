-- The part of a cube's text that has been read: a number, and literals.
use Rattle.std.proofs.Common.{◌≡◌, ℕ, ℤ, ◌+◌, ◌-◌, ◌*◌, ◌^◌, ◌<◌, ◌≤◌, true, List, [], ◌∷◌, ◌++◌, length, Ok, Err, refl, sym, ◌∙◌, ap}
use Rattle.std.proofs.Common.{subst, arith}
use Rattle.std.specs.Prelude.{Result, IfOk, IfErr, MatchResult}
use Rattle.std.specs.Fmt.{decimal, signed_decimal}
use Rattle.std.specs.List.{AllByRecursion}
use Rattle.std.proofs.lemmas.List.{append_assoc, length-append}
use Rattle.lrup_model.specs.lemmas.ListLemmas.{All-push}
use Rattle.lrup_text.specs.declared.cube.CubeFault.{CubeFault}
use Rattle.lrup_text.specs.declared.cube.CubeFault.TheVariants.{Spelling, TooLong, Range, Memory}
use Rattle.lrup_text.specs.internal.CubeReading.{EndsAtSpot, import_front, IsRestFault, BeginsWithNumber, ReadsLiteral, AreKept, AreNotKept}
use Rattle.lrup_text.specs.Cubes.{IsCubeLine, IsLiteralsText, IsTextFault, IsCubeFault}
use Rattle.lrup_text.specs.internal.ByteNames.{line_feed, zero_digit}
use Rattle.lrup_text.specs.Writing.{space}
use Rattle.lrup_text.specs.Grammar.{IsDigit}
use Rattle.lrup_text.specs.Lines.{IsStreamLiteral}
use Rattle.lrup_text.specs.internal.Reading.{FitsDigits, words_text, literals_text}
use Rattle.lrup_text.proofs.Bytes.{first_digit, more_digits, below_limit, decimal_next, positive, text_more, words_end}
use Rattle.lrup_text.specs.internal.Rests.{BeforeLiteral, InLiteral}
use Rattle.lrup_text.proofs.Ahead.{tracks_as, literal_digits, tracks_literals}
use Rattle.lrup_text.proofs.CubeFaults.{nothing_read}
use Rattle.lrup_text.proofs.Numerals.{decimal_one}

-- A number: the digits read after the first.

pub record DigitsSoFar (first : ℕ) (after : List ℕ) (number digits : ℕ) (rest : List ℕ) : Type 0 where
  pub more : List ℕ
  pub each : AllByRecursion IsDigit more
  pub size : digits ≡ 1 + length more
  pub is : after ≡ more ++ rest
  pub word : decimal number ≡ first ∷ more
  pub fits : FitsDigits number digits

pub digits_start : (first : ℕ) (after : List ℕ) → 49 ≤ first → first ≤ 57 → DigitsSoFar first after (first - 48) 1 after
digits_start first after low high = record {
  more = [];
  each = tt;
  size = refl;
  is = refl;
  word = decimal_one first (omega arith, high);
  fits = first_digit first low high;
}

pub digits_next : (first : ℕ) (after : List ℕ) (number digits : ℕ) (rest next : List ℕ) (b : ℕ) → DigitsSoFar first after number digits rest
    → rest ≡ b ∷ next → IsDigit b → digits < 18 → DigitsSoFar first after (number * 10 + (b - 48)) (digits + 1) next
digits_next first after number digits rest next b so is digit few = record {
  more = so.more ++ b ∷ [];
  each = All-push IsDigit so.more b so.each digit;
  size = omega (arith, so.size, length-append so.more (b ∷ []));
  is = so.is ∙ ap (λ t. so.more ++ t) is ∙ sym (append_assoc so.more (b ∷ []) next);
  word = decimal_next number digits b so.fits few digit ∙ ap (λ t. t ++ b ∷ []) so.word;
  fits = more_digits number digits b so.fits few digit;
}

-- the number is below the limit after one more digit
pub next_fits : (first : ℕ) (after : List ℕ) (number digits : ℕ) (rest : List ℕ) (b : ℕ) → DigitsSoFar first after number digits rest
    → IsDigit b → digits < 18 → number * 10 + (b - 48) < 10 ^ 18
next_fits first after number digits rest b so digit few =
    below_limit (number * 10 + (b - 48)) (digits + 1) (more_digits number digits b so.fits few digit)

pub digits_read : (first : ℕ) (after : List ℕ) (number digits : ℕ) (rest next : List ℕ) → DigitsSoFar first after number digits rest
    → rest ≡ space ∷ next → BeginsWithNumber (first ∷ after) number next
digits_read first after number digits rest next so is = record {
  fits = positive number digits so.fits;
  is = ap (λ t. first ∷ t) (so.is ∙ ap (λ t. so.more ++ t) is) ∙ ap (λ t. t ++ space ∷ next) (sym so.word);
}

pub digits_fault : (first : ℕ) (after : List ℕ) (number digits : ℕ) (rest : List ℕ) (fault : CubeFault)
    → DigitsSoFar first after number digits rest → IsRestFault (InLiteral true digits) rest fault
    → IsRestFault (InLiteral true 1) after fault
digits_fault first after number digits rest fault so h read n few occurs =
    let here : EndsAtSpot (read ++ so.more) (InLiteral true digits n) =
    tracks_as (literal_digits (import_front ++ read) true 1 n so.more so.each occurs) refl (ap (λ k. InLiteral true k n) (sym so.size)) in
    rw (append_assoc read so.more rest ∙ ap (λ t. read ++ t) (sym so.is)) at (h (read ++ so.more) n few here)

-- Literals.

pub record LiteralsSoFar (text : List ℕ) (literals : List ℤ) (count : ℕ) (rest : List ℕ) : Type 0 where
  pub size : length literals ≡ count
  pub few : count ≤ 65535
  pub each : AllByRecursion IsStreamLiteral literals
  pub is : text ≡ literals_text literals ++ rest

pub literals_start : (text : List ℕ) → LiteralsSoFar text [] 0 text
unfolding words_text
literals_start text = record { size = refl; few = omega arith; each = tt; is = refl }

pub literals_next : (text : List ℕ) (literals : List ℤ) (count : ℕ) (rest next : List ℕ) (z : ℤ) → LiteralsSoFar text literals count rest
    → ReadsLiteral rest z next → count < 65535 → LiteralsSoFar text (literals ++ z ∷ []) (count + 1) next
unfolding words_text
literals_next text literals count rest next z so read few =
    let word = signed_decimal z ++ space ∷ [] in
    let longer : literals_text (literals ++ z ∷ []) ≡ literals_text literals ++ word =
    text_more (λ x. signed_decimal x ++ space ∷ []) literals z in
    record {
      size = omega (arith, length-append literals (z ∷ []), so.size);
      few = omega (arith, few);
      each = All-push IsStreamLiteral literals z so.each read.fits;
      is =
          so.is ∙ ap (λ t. literals_text literals ++ t) (read.is ∙ sym (append_assoc (signed_decimal z) (space ∷ []) next))
          ∙ sym (append_assoc (literals_text literals) word next) ∙ ap (λ t. t ++ next) (sym longer);
    }

pub literals_fault : (text : List ℕ) (literals : List ℤ) (count : ℕ) (rest : List ℕ) (fault : CubeFault)
    → LiteralsSoFar text literals count rest
    → ((read : List ℕ) → EndsAtSpot read (BeforeLiteral true count) → IsTextFault IsCubeLine (read ++ rest) fault)
    → IsTextFault IsCubeLine text fault
literals_fault text literals count rest fault so h =
    let here : EndsAtSpot (literals_text literals) (BeforeLiteral true count) =
    tracks_as (tracks_literals import_front true 0 literals so.each nothing_read) refl (ap (BeforeLiteral true) (omega (arith, so.size))) in
    subst (λ t. IsTextFault IsCubeLine t fault) (sym so.is) (h (literals_text literals) here)

pub text_read : (text : List ℕ) (literals : List ℤ) (count : ℕ) (rest : List ℕ) → LiteralsSoFar text literals count rest
    → rest ≡ zero_digit ∷ line_feed ∷ [] → IsLiteralsText literals text
text_read text literals count rest so is = record {
  few = record { count = omega (arith, so.size, so.few); each = so.each };
  is = so.is ∙ ap (λ t. literals_text literals ++ t) is ∙ words_end signed_decimal literals (line_feed ∷ []);
}

-- What follows for a whole text if its literals are kept, and if they aren't.

module _ {T : Type 0} (items : T → List ℤ) (vars : ℕ) (literals : List ℤ) (text : List ℕ) (is : IsLiteralsText literals text) where
  pub kept_text : (r : Result T CubeFault) → MatchResult r (λ kept. AreKept vars literals (items kept)) (AreNotKept vars literals)
      → IfOk r (λ kept. IsLiteralsText (items kept) text)
  kept_text (Ok kept) h = subst (λ zs. IsLiteralsText zs text) (sym h.0) is
  kept_text (Err fault) h = tt

  pub kept_fault : (r : Result T CubeFault) → MatchResult r (λ kept. AreKept vars literals (items kept)) (AreNotKept vars literals)
      → IfErr r (IsCubeFault vars text)
  kept_fault (Ok kept) h = tt
  kept_fault (Err Spelling) h = absurd h
  kept_fault (Err TooLong) h = absurd h
  kept_fault (Err Range) h = (literals, is, h)
  kept_fault (Err Memory) h = (literals, is, h)

-- A fault of the spelling is a fault of the cube's text.
pub spelling_fault : (vars : ℕ) (text : List ℕ) (fault : CubeFault) → IsTextFault IsCubeLine text fault → IsCubeFault vars text fault
spelling_fault vars text Spelling h = h
spelling_fault vars text TooLong h = h
spelling_fault vars text Range h = absurd h
spelling_fault vars text Memory h = absurd h
