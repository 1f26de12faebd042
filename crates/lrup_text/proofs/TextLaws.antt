-- Texts of lines: a text spells only one line, and no line's text is a proper prefix of another
-- line's text.
use Rattle.std.proofs.Common.{◌≡◌, ◌≢◌, ℕ, suc, ℤ, pos, negsuc, ◌<◌, ◌≤◌, inl, inr, false, List, [], ◌∷◌, ◌++◌, length, map, refl, sym, ◌∙◌}
use Rattle.std.proofs.Common.{ap, arith}
use Rattle.std.specs.Fmt.{decimal, signed_decimal}
use Rattle.std.specs.List.{AllByRecursion}
use Rattle.std.proofs.lemmas.List.{append_assoc, length-append, length-map, append-nil}
use Rattle.lrup_text.specs.Writing.{space}
use Rattle.lrup_text.specs.internal.ByteNames.{minus, zero_digit, letter_d, letter_i, line_feed}
use Rattle.lrup_text.specs.Grammar.{standard, IsDigit, SpellsNumber, SpellsLiteral, AreFew, Words, Adds, Deletes, Imports, AreWordsWithin}
use Rattle.lrup_text.specs.Grammar.{IsLine, text, list_text, clause_text}
use Rattle.lrup_text.specs.Laws.{EmptyPending}
use Rattle.lrup_text.specs.Lines.{StreamLine, Addition, Deletion, Import, IsStreamNumber, IsStreamLiteral, IsWithinLimits, words_of}
use Rattle.lrup_text.specs.Lines.{line_text, HasNoLine, IsPending}
use Rattle.lrup_text.specs.internal.Rests.{Spot, AtStart, Tracks}
use Rattle.lrup_text.proofs.Numerals.{number_word}
use Rattle.lrup_text.proofs.Rests.{same_head, same_tail, literal_of_number, list_rest, list_text-space, list_is_clause}
use Rattle.lrup_text.proofs.Steps.{IsBounded, IsOpen, open_spot, standard_lifted, tracks_begins, at_start}

-- A word contains no space, so it ends before the first space.

abbrev NoSpace : List ℕ → Type 0
NoSpace word = AllByRecursion (λ c. c ≢ space) word

digits_no_space : (cs : List ℕ) → AllByRecursion IsDigit cs → NoSpace cs
digits_no_space [] h = tt
digits_no_space (c ∷ cs) h = ((λ e. let low : 48 ≤ c = h.0.0 in let e' : c ≡ space = e in omega arith), digits_no_space cs h.1)

number_no_space : (most : ℕ) (word : List ℕ) → SpellsNumber most word → NoSpace word
number_no_space most [] h = tt
number_no_space most (c ∷ cs) h = ((λ e. let low : 49 ≤ c = h.0 in let e' : c ≡ space = e in omega arith), digits_no_space cs h.2)

literal_no_space : (most : ℕ) (word : List ℕ) → SpellsLiteral most word → NoSpace word
literal_no_space most [] h = tt
literal_no_space most (c ∷ cs) (inl h) = number_no_space most (c ∷ cs) h
literal_no_space most (c ∷ cs) (inr h) = (
  (λ e. let e' : c ≡ space = e in let m : c ≡ minus = h.0 in omega arith),
  number_no_space most cs h.1,
)

word_apart : (v w x y : List ℕ) → NoSpace v → NoSpace w → v ++ space ∷ x ≡ w ++ space ∷ y → (v ≡ w) × (x ≡ y)
word_apart [] [] x y hv hw e = (refl, same_tail e)
word_apart [] (c ∷ w) x y hv hw e = absurd (hw.0 (sym (same_head e)))
word_apart (c ∷ v) [] x y hv hw e = absurd (hv.0 (same_head e))
word_apart (c ∷ v) (d ∷ w) x y hv hw e =
    let rest = word_apart v w x y hv.1 hw.1 (same_tail e) in
    (ap (λ z. z ∷ v) (same_head e) ∙ ap (λ t. d ∷ t) rest.0, rest.1)

abbrev AreNumbers : List (List ℕ) → Type 0
AreNumbers ws = AllByRecursion (SpellsNumber 18) ws

-- a number or a literal doesn't begin with 0
number_no_zero : (w : List ℕ) (x y : List ℕ) → SpellsNumber 18 w → w ++ x ≡ zero_digit ∷ y → ⊥
number_no_zero [] x y h e = h
number_no_zero (c ∷ cs) x y h e = let low : 49 ≤ c = h.0 in let e' : c ≡ zero_digit = same_head e in omega arith

literal_no_zero : (w : List ℕ) (x y : List ℕ) → SpellsLiteral 18 w → w ++ x ≡ zero_digit ∷ y → ⊥
literal_no_zero [] x y h e = h
literal_no_zero (c ∷ cs) x y (inl h) e = number_no_zero (c ∷ cs) x y h e
literal_no_zero (c ∷ cs) x y (inr h) e = let m : c ≡ minus = h.0 in let e' : c ≡ zero_digit = same_head e in absurd (omega arith)

literal_no_letter : (w : List ℕ) (b : ℕ) (x y : List ℕ) → 57 < b → SpellsLiteral 18 w → w ++ x ≡ b ∷ y → ⊥
literal_no_letter [] b x y letter h e = h
literal_no_letter (c ∷ cs) b x y letter (inl h) e = let high : c ≤ 57 = h.1 in let e' : c ≡ b = same_head e in absurd (omega arith)
literal_no_letter (c ∷ cs) b x y letter (inr h) e = let m : c ≡ minus = h.0 in let e' : c ≡ b = same_head e in absurd (omega arith)

-- after a word, a list's text begins with a space
after_word : (w : List ℕ) (ws : List (List ℕ)) (x : List ℕ) → (w ++ list_text ws) ++ x ≡ w ++ space ∷ (list_rest ws ++ x)
after_word w ws x = append_assoc w (list_text ws) x ∙ ap (λ t. w ++ (t ++ x)) (list_text-space ws)

list_apart : (vs ws : List (List ℕ)) (x y : List ℕ) → AreNumbers vs → AreNumbers ws → list_text vs ++ x ≡ list_text ws ++ y
    → (vs ≡ ws) × (x ≡ y)
list_apart [] [] x y hv hw e = (refl, same_tail (same_tail (same_tail e)))
list_apart [] (w ∷ ws) x y hv hw e = absurd (number_no_zero w _ _ hw.0 (sym (same_tail e ∙ append_assoc w (list_text ws) y)))
list_apart (v ∷ vs) [] x y hv hw e = absurd (number_no_zero v _ _ hv.0 (sym (append_assoc v (list_text vs) x) ∙ same_tail e))
list_apart (v ∷ vs) (w ∷ ws) x y hv hw e =
    let one = word_apart v w (list_rest vs ++ x) (list_rest ws ++ y) (number_no_space 18 v hv.0) (number_no_space 18 w hw.0)
    (sym (after_word v vs x) ∙ same_tail e ∙ after_word w ws y) in
    let both : list_text vs ++ x ≡ list_text ws ++ y =
    ap (λ t. t ++ x) (list_text-space vs) ∙ ap (λ t. space ∷ t) one.1 ∙ sym (ap (λ t. t ++ y) (list_text-space ws)) in
    let rest = list_apart vs ws x y hv.1 hw.1 both in
    (ap (λ z. z ∷ vs) one.0 ∙ ap (λ t. w ∷ t) rest.0, rest.1)

clause_apart : (vs ws : List (List ℕ)) (x y : List ℕ) → AllByRecursion (SpellsLiteral 18) vs → AllByRecursion (SpellsLiteral 18) ws
    → clause_text vs x ≡ clause_text ws y → (vs ≡ ws) × (x ≡ y)
clause_apart [] [] x y hv hw e = (refl, same_tail e)
clause_apart [] (w ∷ ws) x y hv hw e = absurd (literal_no_zero w _ _ hw.0 (sym e))
clause_apart (v ∷ vs) [] x y hv hw e = absurd (literal_no_zero v _ _ hv.0 e)
clause_apart (v ∷ vs) (w ∷ ws) x y hv hw e =
    let one = word_apart v w (clause_text vs x) (clause_text ws y) (literal_no_space 18 v hv.0) (literal_no_space 18 w hw.0) e in
    let rest = clause_apart vs ws x y hv.1 hw.1 one.1 in
    (ap (λ z. z ∷ vs) one.0 ∙ ap (λ t. w ∷ t) rest.0, rest.1)

clause_append : (ws : List (List ℕ)) (x y : List ℕ) → clause_text ws x ++ y ≡ clause_text ws (x ++ y)
clause_append [] x y = refl
clause_append (w ∷ ws) x y = append_assoc w (space ∷ clause_text ws x) y ∙ ap (λ t. w ++ space ∷ t) (clause_append ws x y)

clause_no_letter : (ws : List (List ℕ)) (b : ℕ) (x y : List ℕ) → 57 < b → AllByRecursion (SpellsLiteral 18) ws
    → clause_text ws x ≡ b ∷ y → ⊥
clause_no_letter [] b x y letter h e = let e' : zero_digit ≡ b = same_head e in omega arith
clause_no_letter (w ∷ ws) b x y letter h e = literal_no_letter w b _ _ letter h.0 e

-- what follows the first number and a space
abbrev after_lead : Words → List ℕ
after_lead (Adds id lits hints) = clause_text lits (list_text hints)
after_lead (Deletes lead ids) = letter_d ∷ list_text ids
after_lead (Imports id lits) = letter_i ∷ list_text lits

abbrev lead_word : Words → List ℕ
lead_word (Adds id lits hints) = id
lead_word (Deletes lead ids) = lead
lead_word (Imports id lits) = id

lead_is_number : (w : Words) → AreWordsWithin standard w → SpellsNumber 18 (lead_word w)
lead_is_number (Adds id lits hints) h = h.0
lead_is_number (Deletes lead ids) h = h.0
lead_is_number (Imports id lits) h = h.0

text_parts : (w : Words) (x : List ℕ) → text w ++ x ≡ lead_word w ++ space ∷ (after_lead w ++ x)
text_parts (Adds id lits hints) x = append_assoc id (space ∷ clause_text lits (list_text hints)) x
text_parts (Deletes lead ids) x = append_assoc lead (space ∷ letter_d ∷ list_text ids) x
text_parts (Imports id lits) x = append_assoc id (space ∷ letter_i ∷ list_text lits) x

-- if the texts of two lists of literals, each with bytes after it, are equal, so are the lists, and
-- so are the bytes after them
lits_apart : (vs ws : List (List ℕ)) (x y : List ℕ) → AllByRecursion (SpellsLiteral 18) vs → AllByRecursion (SpellsLiteral 18) ws
    → list_text vs ++ x ≡ list_text ws ++ y → (vs ≡ ws) × (x ≡ y)
lits_apart vs ws x y hv hw e =
    let one = clause_apart vs ws ((line_feed ∷ []) ++ x) ((line_feed ∷ []) ++ y) hv hw
    (sym (clause_append vs (line_feed ∷ []) x) ∙ same_tail (ap (λ t. t ++ x) (sym (list_is_clause vs)) ∙ e
    ∙ ap (λ t. t ++ y) (list_is_clause ws)) ∙ clause_append ws (line_feed ∷ []) y) in
    (one.0, same_tail one.1)

rests_apart : (v w : Words) (x y : List ℕ) → AreWordsWithin standard v → AreWordsWithin standard w → lead_word v ≡ lead_word w
    → after_lead v ++ x ≡ after_lead w ++ y → (v ≡ w) × (x ≡ y)
rests_apart (Adds i ls hs) (Adds j ms gs) x y hv hw lead e =
    let clause = clause_apart ls ms (list_text hs ++ x) (list_text gs ++ y) hv.1.each hw.1.each
    (sym (clause_append ls (list_text hs) x) ∙ e ∙ clause_append ms (list_text gs) y) in
    let list = list_apart hs gs x y hv.2.each hw.2.each clause.1 in
    (ap (λ z. Adds z ls hs) lead ∙ ap (λ z. Adds j z hs) clause.0 ∙ ap (λ z. Adds j ms z) list.0, list.1)
rests_apart (Adds i ls hs) (Deletes j ds) x y hv hw lead e =
    absurd (clause_no_letter ls letter_d (list_text hs ++ x) _ (omega arith) hv.1.each (sym (clause_append ls (list_text hs) x) ∙ e))
rests_apart (Adds i ls hs) (Imports j ms) x y hv hw lead e =
    absurd (clause_no_letter ls letter_i (list_text hs ++ x) _ (omega arith) hv.1.each (sym (clause_append ls (list_text hs) x) ∙ e))
rests_apart (Deletes i ds) (Adds j ms gs) x y hv hw lead e =
    absurd (clause_no_letter ms letter_d (list_text gs ++ y) _ (omega arith) hw.1.each (sym (clause_append ms (list_text gs) y) ∙ sym e))
rests_apart (Deletes i ds) (Deletes j es) x y hv hw lead e =
    let list = list_apart ds es x y hv.1.each hw.1.each (same_tail e) in
    (ap (λ z. Deletes z ds) lead ∙ ap (λ z. Deletes j z) list.0, list.1)
rests_apart (Deletes i ds) (Imports j ms) x y hv hw lead e = let e' : letter_d ≡ letter_i = same_head e in absurd (omega arith)
rests_apart (Imports i ls) (Adds j ms gs) x y hv hw lead e =
    absurd (clause_no_letter ms letter_i (list_text gs ++ y) _ (omega arith) hw.1.each (sym (clause_append ms (list_text gs) y) ∙ sym e))
rests_apart (Imports i ls) (Deletes j es) x y hv hw lead e = let e' : letter_i ≡ letter_d = same_head e in absurd (omega arith)
rests_apart (Imports i ls) (Imports j ms) x y hv hw lead e =
    let list = lits_apart ls ms x y hv.1.each hw.1.each (same_tail e) in
    (ap (λ z. Imports z ls) lead ∙ ap (λ z. Imports j z) list.0, list.1)

-- if the texts of two lines, each with bytes after it, are equal, so are the lines' words, and so
-- are the bytes after them
pub words_apart : (v w : Words) (x y : List ℕ) → AreWordsWithin standard v → AreWordsWithin standard w → text v ++ x ≡ text w ++ y
    → (v ≡ w) × (x ≡ y)
words_apart v w x y hv hw e =
    let one = word_apart (lead_word v) (lead_word w) (after_lead v ++ x) (after_lead w ++ y)
    (number_no_space 18 (lead_word v) (lead_is_number v hv)) (number_no_space 18 (lead_word w) (lead_is_number w hw))
    (sym (text_parts v x) ∙ e ∙ text_parts w y) in
    rests_apart v w x y hv hw one.0 one.1

-- If a line is within the limits, so are its words.

pub signed_word : (z : ℤ) → IsStreamLiteral z → SpellsLiteral 18 (signed_decimal z)
signed_word (pos n) h = literal_of_number 18 (decimal n) (number_word n h.0 h.1)
signed_word (negsuc n) h = inr (refl, number_word (suc n) h.0 h.1)

all_map : {X : Type 0} (f : X → List ℕ) (P : X → Type 0) (Q : List ℕ → Type 0) → ((x : X) → P x → Q (f x)) → (xs : List X)
    → AllByRecursion P xs → AllByRecursion Q (map f xs)
all_map f P Q each [] h = tt
all_map f P Q each (x ∷ xs) h = (each x h.0, all_map f P Q each xs h.1)

pub few_map : {X : Type 0} (most : ℕ) (f : X → List ℕ) (P : X → Type 0) (Q : List ℕ → Type 0) → ((x : X) → P x → Q (f x)) → (xs : List X)
    → AreFew most P xs → AreFew most Q (map f xs)
few_map most f P Q each xs h = record { count = omega (arith, length-map xs f, h.count); each = all_map f P Q each xs h.each }

pub decimal_word : (n : ℕ) → IsStreamNumber n → SpellsNumber 18 (decimal n)
decimal_word n h = number_word n h.0 h.1

pub fits_within : (line : StreamLine) → IsWithinLimits line → AreWordsWithin standard (words_of line)
fits_within (Addition id lits hints) h = (
  decimal_word id h.0,
  few_map 65535 signed_decimal IsStreamLiteral (SpellsLiteral 18) signed_word lits h.1,
  few_map 65536 decimal IsStreamNumber (SpellsNumber 18) decimal_word hints h.2,
)
fits_within (Import id lits) h = (decimal_word id h.0, few_map 65535 signed_decimal IsStreamLiteral (SpellsLiteral 18) signed_word lits h.1)
fits_within (Deletion lead ids) h = (decimal_word lead h.0, few_map 65536 decimal IsStreamNumber (SpellsNumber 18) decimal_word ids h.1)

-- A text that may become a line, and isn't one yet, has no whole line in it.

-- a proper prefix of a line contains no whole line
within_line : (read : List ℕ) (first : ℕ) (rest : List ℕ) → IsLine standard (read ++ first ∷ rest) → HasNoLine read
within_line read first rest longer line more fits e =
    let same = words_apart (words_of line) longer.0 (more ++ first ∷ rest) [] (fits_within line fits) longer.1
    (sym (append_assoc (line_text line) more (first ∷ rest)) ∙ ap (λ t. t ++ first ∷ rest) (sym e) ∙ longer.2
    ∙ sym (append-nil (text longer.0))) in
    let none : length (more ++ first ∷ rest) ≡ 0 = ap length same.1 in
    omega (arith, none, length-append more (first ∷ rest))

pub tracks_pending : (read : List ℕ) (spot : Spot) → Tracks read spot → IsBounded spot → IsPending read
tracks_pending read spot tracks bounded =
    let some : IsOpen spot = open_spot spot bounded in
    record {
      begins = tracks_begins read spot tracks bounded;
      whole = within_line read some.0 some.1 (tracks.line false standard standard_lifted (some.0 ∷ some.1) some.2);
    }

-- the empty text may still become a line
pub empty_pending : EmptyPending
empty_pending = tracks_pending [] AtStart at_start tt
