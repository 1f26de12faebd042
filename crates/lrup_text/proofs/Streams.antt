-- The laws of lines and streams.
use Rattle.std.proofs.Common.{◌≡◌, ℕ, suc, zero, ℤ, pos, negsuc, ◌+◌, ◌-◌, ◌*◌, ◌<◌, ◌≤◌, ◌^◌, ◌⊎◌, inl, inr, List, [], ◌∷◌, ◌++◌, length}
use Rattle.std.proofs.Common.{take, map, Ok, Err, refl, sym, ◌∙◌, ap, subst, arith}
use Rattle.std.specs.Fmt.{decimal, signed_decimal}
use Rattle.std.specs.List.{AllByRecursion, flat_map}
use Rattle.std.proofs.lemmas.Fmt.{decimal_injective, signed_decimal_injective}
use Rattle.std.proofs.lemmas.List.{append_assoc, length-append, length-map, append-nil, append_cancel_left, nil_from_length, take_all}
use Rattle.std.proofs.lemmas.List.{flat_map_more}
use Rattle.lrup_model.specs.lemmas.ListLemmas.{All-push}
use Rattle.lrup_text.specs.declared.LineFault.{LineFault}
use Rattle.lrup_text.specs.declared.LineFault.TheVariants.{Spelling, TooLong, Truncated, RatHint}
use Rattle.lrup_text.specs.declared.reader.ReaderStatus.{ReaderStatus}
use Rattle.lrup_text.specs.declared.reader.ReaderStatus.TheVariants.{Line, NeedMore, Fault}
use Rattle.lrup_text.specs.internal.ByteNames.{minus}
use Rattle.lrup_text.specs.Grammar.{standard, IsDigit, SpellsNumber, SpellsLiteral, AreFew, Words, Adds, Deletes, Imports, AreWordsWithin}
use Rattle.lrup_text.specs.Grammar.{IsLine, text, Begins}
use Rattle.lrup_text.specs.Lines.{StreamLine, Addition, Deletion, Import, IsStreamNumber, IsStreamLiteral, IsWithinLimits, LineText}
use Rattle.lrup_text.specs.Lines.{words_of, line_text, HasNoLine, Cut, line_of}
use Rattle.lrup_text.specs.Faults.{IsLineFaultOf, IsRefused}
use Rattle.lrup_text.specs.Feeding.{ReaderState, Feeds, ReaderReaches}
use Rattle.lrup_text.specs.Cutting.{used_bytes, line_given, lines_given, IsCut}
use Rattle.lrup_text.specs.Laws.{OneText, OneLine, NoTextBegins, TextsAreLines, OneCut, OneFault, EmptyCut, CallsCut}
use Rattle.lrup_text.specs.Laws.{RefusedStays, OneFirstLine}
use Rattle.lrup_text.proofs.Numerals.{decimal_byte, decimal_one, power_more, power_below}
use Rattle.lrup_text.proofs.Rests.{same_head, same_tail}
use Rattle.lrup_text.proofs.TextLaws.{fits_within, words_apart, empty_pending}

-- A line has only one text.

pub one_text : OneText
one_text line bytes others a b = a.1 ∙ sym b.1

-- A text spells only one line.

numbers_same : (ms ns : List ℕ) → AllByRecursion IsStreamNumber ms → AllByRecursion IsStreamNumber ns
    → map decimal ms ≡ map decimal ns → ms ≡ ns
numbers_same [] [] hm hn e = refl
numbers_same [] (n ∷ ns) hm hn e = cc
numbers_same (m ∷ ms) [] hm hn e = cc
numbers_same (m ∷ ms) (n ∷ ns) hm hn e =
    let head : decimal m ≡ decimal n = cc in
    let tail : map decimal ms ≡ map decimal ns = cc in
    let one : m ≡ n = decimal_injective m n (omega (arith, hm.0)) (omega (arith, hn.0)) head in
    let rest : ms ≡ ns = numbers_same ms ns hm.1 hn.1 tail in
    cc

literals_same : (ys zs : List ℤ) → AllByRecursion IsStreamLiteral ys → AllByRecursion IsStreamLiteral zs
    → map signed_decimal ys ≡ map signed_decimal zs → ys ≡ zs
literals_same [] [] hy hz e = refl
literals_same [] (z ∷ zs) hy hz e = cc
literals_same (y ∷ ys) [] hy hz e = cc
literals_same (y ∷ ys) (z ∷ zs) hy hz e =
    let head : signed_decimal y ≡ signed_decimal z = cc in
    let tail : map signed_decimal ys ≡ map signed_decimal zs = cc in
    let one : y ≡ z = signed_decimal_injective y z (below y hy.0) (below z hz.0) head in
    let rest : ys ≡ zs = literals_same ys zs hy.1 hz.1 tail in
    cc
  where
    below : (x : ℤ) → IsStreamLiteral x → lib.Signed.mag x < 2 ^ 63
    below (pos n) h = omega (arith, h.1)
    below (negsuc n) h = let high : suc n < 10 ^ 18 = h.1 in omega arith

lines_same : (line other : StreamLine) → IsWithinLimits line → IsWithinLimits other → words_of line ≡ words_of other → line ≡ other
lines_same (Addition i ls hs) (Addition j ms gs) h k e =
    let first : decimal i ≡ decimal j = cc in
    let second : map signed_decimal ls ≡ map signed_decimal ms = cc in
    let third : map decimal hs ≡ map decimal gs = cc in
    let id : i ≡ j = decimal_injective i j (omega (arith, h.0)) (omega (arith, k.0)) first in
    let lits : ls ≡ ms = literals_same ls ms h.1.each k.1.each second in
    let hints : hs ≡ gs = numbers_same hs gs h.2.each k.2.each third in
    cc
lines_same (Addition i ls hs) (Deletion j ds) h k e = cc
lines_same (Addition i ls hs) (Import j ms) h k e = cc
lines_same (Deletion i ds) (Addition j ms gs) h k e = cc
lines_same (Deletion i ds) (Import j ms) h k e = cc
lines_same (Import i ls) (Addition j ms gs) h k e = cc
lines_same (Import i ls) (Deletion j ds) h k e = cc
lines_same (Import i ls) (Import j ms) h k e =
    let first : decimal i ≡ decimal j = cc in
    let second : map signed_decimal ls ≡ map signed_decimal ms = cc in
    let id : i ≡ j = decimal_injective i j (omega (arith, h.0)) (omega (arith, k.0)) first in
    let lits : ls ≡ ms = literals_same ls ms h.1.each k.1.each second in
    cc
lines_same (Deletion i ds) (Deletion j es) h k e =
    let first : decimal i ≡ decimal j = cc in
    let second : map decimal ds ≡ map decimal es = cc in
    let id : i ≡ j = decimal_injective i j (omega (arith, h.0)) (omega (arith, k.0)) first in
    let ids : ds ≡ es = numbers_same ds es h.1.each k.1.each second in
    cc

-- a text begins with at most one line
pub texts_apart : OneFirstLine
texts_apart line other x y h k e =
    let words = words_apart (words_of line) (words_of other) x y (fits_within line h) (fits_within other k) e in
    (lines_same line other h k words.0, words.1)

pub one_line : OneLine
one_line line other bytes a b = (texts_apart line other [] [] a.0 b.0 (ap (λ t. t ++ []) (sym a.1 ∙ b.1))).0

pub no_text_begins : NoTextBegins
no_text_begins line other bytes others more a b e =
    (texts_apart line other more [] a.0 b.0 (ap (λ t. t ++ more) (sym a.1) ∙ sym e ∙ b.1 ∙ sym (append-nil (line_text other)))).1

-- A text that the grammar accepts is the text of a line.

-- the word is the decimal text of a number
abbrev Spelled : List ℕ → Type 0
Spelled word = (n : ℕ) × IsStreamNumber n × (decimal n ≡ word)

spelled_from : (n k : ℕ) (cs : List ℕ) → 0 < n → n < 10 ^ k → AllByRecursion IsDigit cs → k + length cs ≤ 18 → Spelled (decimal n ++ cs)
spelled_from n k [] low high h few = (n, (low, omega (arith, high, power_below k (omega arith))), sym (append-nil (decimal n)))
spelled_from n k (c ∷ cs) low high h few =
    let digit : IsDigit c = h.0 in
    let next : n * 10 + (c - 48) < 10 ^ (k + 1) = power_more k n (c - 48) high (omega (arith, h.0)) in
    let fits : 10 ^ (k + 1) ≤ 10 ^ 18 = power_below (k + 1) (omega arith) in
    let longer : decimal (n * 10 + (c - 48)) ≡ decimal n ++ c ∷ [] =
    decimal_byte n c low (omega (arith, high, power_below k (omega arith))) digit (omega arith) in
    let word = spelled_from (n * 10 + (c - 48)) (k + 1) cs (omega arith) next h.1 (omega arith) in
    (word.0, word.1, word.2 ∙ ap (λ t. t ++ cs) longer ∙ append_assoc (decimal n) (c ∷ []) cs)

spelled : (word : List ℕ) → SpellsNumber 18 word → Spelled word
spelled [] h = absurd h
spelled (c ∷ cs) h =
    let one : decimal (c - 48) ≡ c ∷ [] = decimal_one c (omega (arith, h.0), h.1) in
    let word = spelled_from (c - 48) 1 cs (omega (arith, h.0)) (omega (arith, h.1)) h.2 (omega (arith, h.3)) in
    (word.0, word.1, word.2 ∙ ap (λ t. t ++ cs) one)

abbrev SpelledSigned : List ℕ → Type 0
SpelledSigned word = (z : ℤ) × IsStreamLiteral z × (signed_decimal z ≡ word)

negative : (cs : List ℕ) → Spelled cs → SpelledSigned (minus ∷ cs)
negative cs (zero, h, e) = let none : 0 < 0 = h.0 in absurd (omega arith)
negative cs (suc n, h, e) = (negsuc n, h, ap (λ t. minus ∷ t) e)

spelled_signed : (word : List ℕ) → SpellsLiteral 18 word → SpelledSigned word
spelled_signed [] h = absurd h
spelled_signed (c ∷ cs) (inl h) = let word = spelled (c ∷ cs) h in (pos word.0, word.1, word.2)
spelled_signed (c ∷ cs) (inr h) =
    let word = negative cs (spelled cs h.1) in
    (word.0, word.1, word.2 ∙ ap (λ x. x ∷ cs) (sym h.0))

all_spelled : {X : Type 0} (f : X → List ℕ) (P : X → Type 0) (Q : List ℕ → Type 0) → ((w : List ℕ) → Q w → (x : X) × P x × (f x ≡ w))
    → (ws : List (List ℕ)) → AllByRecursion Q ws → (xs : List X) × AllByRecursion P xs × (map f xs ≡ ws)
all_spelled f P Q each [] h = ([], tt, refl)
all_spelled {X} f P Q each (w ∷ ws) h =
    let one : (x : X) × P x × (f x ≡ w) = each w h.0 in
    let rest : (xs : List X) × AllByRecursion P xs × (map f xs ≡ ws) = all_spelled f P Q each ws h.1 in
    (one.0 ∷ rest.0, (one.1, rest.1), ap (λ x. x ∷ map f rest.0) one.2 ∙ ap (λ t. w ∷ t) rest.2)

few_spelled : {X : Type 0} (most : ℕ) (f : X → List ℕ) (P : X → Type 0) (Q : List ℕ → Type 0)
    → ((w : List ℕ) → Q w → (x : X) × P x × (f x ≡ w)) → (ws : List (List ℕ)) → AreFew most Q ws
    → (xs : List X) × AreFew most P xs × (map f xs ≡ ws)
few_spelled {X} most f P Q each ws h =
    let all : (xs : List X) × AllByRecursion P xs × (map f xs ≡ ws) = all_spelled f P Q each ws h.each in
    (all.0, record { count = omega (arith, h.count, length-map all.0 f, ap length all.2); each = all.1 }, all.2)

line_spelled : (words : Words) → AreWordsWithin standard words → (line : StreamLine) × IsWithinLimits line × (words_of line ≡ words)
line_spelled (Adds id lits hints) h =
    let first = spelled id h.0 in
    let second = few_spelled 65535 signed_decimal IsStreamLiteral (SpellsLiteral 18) spelled_signed lits h.1 in
    let third = few_spelled 65536 decimal IsStreamNumber (SpellsNumber 18) spelled hints h.2 in (
      Addition first.0 second.0 third.0,
      (first.1, second.1, third.1),
      ap (λ x. Adds x (map signed_decimal second.0) (map decimal third.0)) first.2 ∙ ap (λ x. Adds id x (map decimal third.0)) second.2
          ∙ ap (λ x. Adds id lits x) third.2,
    )
line_spelled (Deletes lead ids) h =
    let first = spelled lead h.0 in
    let second = few_spelled 65536 decimal IsStreamNumber (SpellsNumber 18) spelled ids h.1 in
    (Deletion first.0 second.0, (first.1, second.1), ap (λ x. Deletes x (map decimal second.0)) first.2 ∙ ap (λ x. Deletes lead x) second.2)
line_spelled (Imports id lits) h =
    let first = spelled id h.0 in
    let second = few_spelled 65535 signed_decimal IsStreamLiteral (SpellsLiteral 18) spelled_signed lits h.1 in (
      Import first.0 second.0,
      (first.1, second.1),
      ap (λ x. Imports x (map signed_decimal second.0)) first.2 ∙ ap (λ x. Imports id x) second.2,
    )

pub texts_are_lines : TextsAreLines
texts_are_lines bytes = (
  λ h. let line = line_spelled h.0 h.1 in (line.0, (line.1, h.2 ∙ ap text (sym line.2))),
  λ h. (words_of h.0, fits_within h.0 h.1.0, h.1.1),
)

-- A stream can be cut in only one way.

pub one_cut : OneCut
one_cut stream [] [] rest left a b = (refl, sym a.bytes ∙ b.bytes)
one_cut stream [] (m ∷ ms) rest left a b = absurd
    (a.last m (flat_map line_text ms ++ left) b.each.0 (sym a.bytes ∙ b.bytes ∙ append_assoc (line_text m) (flat_map line_text ms) left))
one_cut stream (l ∷ ls) [] rest left a b = absurd
    (b.last l (flat_map line_text ls ++ rest) a.each.0 (sym b.bytes ∙ a.bytes ∙ append_assoc (line_text l) (flat_map line_text ls) rest))
one_cut stream (l ∷ ls) (m ∷ ms) rest left a b =
    let here = texts_apart l m (flat_map line_text ls ++ rest) (flat_map line_text ms ++ left) a.each.0 b.each.0
    (sym (append_assoc (line_text l) (flat_map line_text ls) rest) ∙ sym a.bytes ∙ b.bytes
    ∙ append_assoc (line_text m) (flat_map line_text ms) left) in
    let others = one_cut (flat_map line_text ls ++ rest) ls ms rest left (record { bytes = refl; each = a.each.1; last = a.last }) (record {
      bytes = here.1;
      each = b.each.1;
      last = b.last;
    }) in
    (ap (λ x. x ∷ ls) here.0 ∙ ap (λ t. m ∷ t) others.0, others.1)

-- A rest has only one fault.

begins_before : (bytes more : List ℕ) → Begins (bytes ++ more) → Begins bytes
begins_before bytes more h = (more ++ h.0, subst (IsLine standard) (append_assoc bytes more h.0) h.1)

-- of two prefixes p and q of a text, p begins with q and the byte after it, or q begins with p
pub shorter : (p q : List ℕ) (x y : List ℕ) (b : ℕ) → p ++ x ≡ q ++ b ∷ y
    → ((more : List ℕ) × (p ≡ (q ++ b ∷ []) ++ more)) ⊎ ((more : List ℕ) × (q ≡ p ++ more))
shorter [] q x y b e = inr (q, refl)
shorter (c ∷ p) [] x y b e = inl (p, ap (λ z. z ∷ p) (same_head e))
shorter (c ∷ p) (d ∷ q) x y b e = elim (shorter p q x y b (same_tail e)) [
  | inl h ↦ inl (h.0, ap (λ z. z ∷ p) (same_head e) ∙ ap (λ t. d ∷ t) h.1)
  | inr h ↦ inr (h.0, ap (λ z. z ∷ q) (sym (same_head e)) ∙ ap (λ t. c ∷ t) h.1)
]

faults_same : (bytes : List ℕ) (fault other : LineFault) → IsLineFaultOf bytes fault → IsLineFaultOf bytes other → fault ≡ other
faults_same bytes Spelling Spelling a b = refl
faults_same bytes Spelling TooLong a b = absurd (a.0 b)
faults_same bytes Spelling RatHint a b = absurd (a.1 b.1)
faults_same bytes TooLong Spelling a b = absurd (b.0 a)
faults_same bytes TooLong TooLong a b = refl
faults_same bytes TooLong RatHint a b = absurd (b.0 a)
faults_same bytes Truncated other a b = absurd a
faults_same bytes RatHint Spelling a b = absurd (b.1 a.1)
faults_same bytes RatHint TooLong a b = absurd (a.0 b)
faults_same bytes RatHint RatHint a b = refl
faults_same bytes _ Truncated a b = absurd b

-- a text and what follows it, split before the text's last byte
last_apart : (bytes p : List ℕ) (b : ℕ) (x : List ℕ) → bytes ≡ p ++ b ∷ [] → bytes ++ x ≡ p ++ b ∷ x
last_apart bytes p b x is = ap (λ t. t ++ x) is ∙ append_assoc p (b ∷ []) x

refused_same : (bytes others x y : List ℕ) (fault other : LineFault) → IsRefused bytes fault → IsRefused others other
    → bytes ++ x ≡ others ++ y → fault ≡ other
refused_same bytes others x y fault other h k e =
    elim (shorter h.read k.read (h.byte ∷ x) y k.byte e') [
      | inl longer ↦ absurd (k.after (rw k.is (begins_before (k.read ++ k.byte ∷ []) longer.0 (rw longer.1 at h.before.begins))))
      | inr more ↦ elim (shorter k.read h.read (k.byte ∷ y) x h.byte (sym e')) [
        | inl longer ↦ absurd (h.after (rw h.is (begins_before (h.read ++ h.byte ∷ []) longer.0 (rw longer.1 at k.before.begins))))
        | inr back ↦ alike more.0 back.0 more.1 back.1
      ]
    ]
  where
    e' : h.read ++ h.byte ∷ x ≡ k.read ++ k.byte ∷ y
    e' = sym (last_apart bytes h.read h.byte x h.is) ∙ e ∙ last_apart others k.read k.byte y k.is

    alike : (more back : List ℕ) → k.read ≡ h.read ++ more → h.read ≡ k.read ++ back → fault ≡ other
    alike more back to from =
        let sizes : length k.read ≡ length h.read + length more = ap length to ∙ length-append h.read more in
        let sizes' : length h.read ≡ length k.read + length back = ap length from ∙ length-append k.read back in
        let none : length more ≡ 0 = omega arith in
        let empty : more ≡ [] = nil_from_length more none in
        let same : k.read ≡ h.read = to ∙ ap (λ t. h.read ++ t) empty ∙ append-nil h.read in
        let rest : h.byte ∷ x ≡ k.byte ∷ y = append_cancel_left h.read (h.byte ∷ x) (k.byte ∷ y) (e' ∙ ap (λ t. t ++ k.byte ∷ y) same) in
        let texts : others ≡ bytes = k.is ∙ ap (λ t. t ++ k.byte ∷ []) same
        ∙ ap (λ z. h.read ++ z ∷ []) (sym (same_head rest)) ∙ sym h.is in
        faults_same bytes fault other h.why (subst (λ t. IsLineFaultOf t other) texts k.why)

pub one_fault : OneFault
one_fault rest fault other h = (
  λ k. refused_same h.0 k.0 h.1 k.1 fault other h.3 k.3 (sym h.2 ∙ k.2),
  λ begins. h.3.after (begins_before h.0 h.1 (subst Begins h.2 begins)),
)

-- A stream that comes in pieces is cut into the lines that were given.

-- a text that was refused doesn't begin with a line, even if more bytes follow
pub refused_stays : RefusedStays
refused_stays bytes more fault h line rest fits e =
    elim (shorter (line_text line) h.read rest more h.byte (sym e ∙ last_apart bytes h.read h.byte more h.is)) [
      | inl longer ↦ h.after (subst Begins (sym h.is) (longer.0, (words_of line, fits_within line fits, sym longer.1)))
      | inr less ↦ h.before.whole line less.0 fits less.1
    ]

refused_no_line : (bytes : List ℕ) (fault : LineFault) → IsRefused bytes fault → HasNoLine bytes
refused_no_line bytes fault h = subst HasNoLine (append-nil bytes) (refused_stays bytes [] fault h)

-- if more bytes complete no line, the lines are the same, and the rest is longer
cut_longer : (stream : List ℕ) (lines : List StreamLine) (read more : List ℕ) → Cut stream lines read → HasNoLine (read ++ more)
    → Cut (stream ++ more) (lines ++ []) (read ++ more)
cut_longer stream lines read more cut last =
    subst (λ ls. Cut (stream ++ more) ls (read ++ more)) (sym (append-nil lines))
    (record { bytes = ap (λ t. t ++ more) cut.bytes ∙ append_assoc (flat_map line_text lines) read more; each = cut.each; last = last })

-- if more bytes complete a line, that line is the next one, and the rest is empty
cut_line : (stream : List ℕ) (lines : List StreamLine) (read more : List ℕ) (line : StreamLine) → Cut stream lines read
    → LineText line (read ++ more) → HasNoLine [] → Cut (stream ++ more) (lines ++ line ∷ []) []
cut_line stream lines read more line cut text none = record {
  bytes = ap (λ t. t ++ more) cut.bytes ∙ append_assoc (flat_map line_text lines) read more ∙ ap (λ t. flat_map line_text lines ++ t) text.1
      ∙ flat_map_more line_text [] lines line ∙ sym (append-nil (flat_map line_text (lines ++ line ∷ [])));
  each = All-push IsWithinLimits lines line cut.each text.0;
  last = none;
}

cut_call : (stream : List ℕ) (lines : List StreamLine) (old new : ReaderState) (piece : List ℕ) (used : ℕ) (status : ReaderStatus)
    → IsCut stream lines old → Feeds old piece used status → ReaderReaches old piece status new
    → IsCut (stream ++ take used piece) (lines ++ line_given status) new
cut_call stream lines (Err fault) new piece used status cut gives reaches =
    let given : new ≡ Err fault = rw gives.1 at reaches in
    let nothing : stream ++ take used piece ≡ stream = ap (λ k. stream ++ take k piece) gives.0 ∙ append-nil stream in
    let no_lines : lines ++ line_given status ≡ lines = ap (λ t. lines ++ line_given t) gives.1 ∙ append-nil lines in
    rw (given, nothing, no_lines) cut
cut_call stream lines (Ok read) new piece used (Line line) cut gives reaches =
    rw reaches.0 (cut_line stream lines read (take used piece) (line_of line) cut gives.2 reaches.1.whole)
cut_call stream lines (Ok read) new piece used NeedMore cut gives reaches =
    let all : take used piece ≡ piece = ap (λ k. take k piece) gives ∙ take_all (length piece) piece (omega arith) in
    rw (reaches.0, all) (cut_longer stream lines read piece cut reaches.1.whole)
cut_call stream lines (Ok read) new piece used (Fault fault) cut gives reaches =
    rw reaches (read ++ take used piece, cut_longer stream lines read (take used piece) cut (refused_no_line _ fault gives.2), gives.2)

pub empty_cut : EmptyCut
empty_cut = record { bytes = refl; each = tt; last = empty_pending.whole }

pub calls_cut : CallsCut
calls_cut stream lines old new [] cut same = rw (same, append-nil stream, append-nil lines) cut
calls_cut stream lines old new (call ∷ calls) cut h =
    let next = cut_call stream lines old h.0 call.piece call.used call.status cut h.1 h.2 in
    let all = calls_cut (stream ++ take call.used call.piece) (lines ++ line_given call.status) h.0 new calls next h.3 in
    rw (append_assoc lines (line_given call.status) (lines_given calls), append_assoc stream (take call.used call.piece) (used_bytes calls))
    at all
