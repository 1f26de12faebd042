-- Several literals or items are read at once, inside a line that is read in parts.
use Rattle.std.proofs.Common.{◌≡◌, ℕ, ℤ, ◌+◌, ◌<◌, ◌≤◌, inl, inr, Bool, List, [], ◌∷◌, ◌++◌, length, take, refl, sym, ◌∙◌, ap, subst, arith}
use Rattle.std.specs.Prelude.{Vec}
use Rattle.std.specs.declared.alloc.Global.{Global}
use Rattle.std.specs.Fmt.{decimal, signed_decimal}
use Rattle.std.specs.List.{AllByRecursion, flat_map}
use Rattle.std.proofs.lemmas.List.{append_assoc, append-nil, length-append, length-take-le}
use Rattle.lrup_model.specs.lemmas.ListLemmas.{All-append}
use Rattle.lrup_text.specs.declared.partial_line.ParserState.TheVariants as states
use Rattle.lrup_text.specs.declared.partial_line.PartialLine.{PartialLine}
use Rattle.lrup_text.specs.Writing.{space}
use Rattle.lrup_text.specs.internal.ByteNames.{minus}
use Rattle.lrup_text.specs.Grammar.{IsDigit, SpellsNumber, SpellsLiteral}
use Rattle.lrup_text.specs.internal.Kernel.{ReadsWords}
use Rattle.lrup_text.specs.Lines.{IsStreamNumber, IsStreamLiteral}
use Rattle.lrup_text.specs.internal.Reading.{IsPartialLine, ReadsAhead, pending, pending_at, spot_at, IsRoomy}
use Rattle.lrup_text.specs.internal.Reading.{words_text, literals_text, numbers_text, clause_front, list_front, item_front}
use Rattle.lrup_text.specs.internal.Reading.{literals_read, identities_read}
use Rattle.lrup_text.specs.internal.Rests.{Spot, BeforeLiteral, AfterMinus, InLiteral, BeforeItem, InItem, Tracks}
use Rattle.lrup_text.proofs.Steps.{tracks_more, item_digit, number_digit, number_space, body_minus, body_digit, minus_digit, literal_digit}
use Rattle.lrup_text.proofs.Steps.{literal_space}
use Rattle.lrup_text.proofs.Bytes.{clause_more, list_more}
use Rattle.lrup_text.proofs.TextLaws.{signed_word, decimal_word}

-- `Tracks` holds for equal bytes and an equal spot, too
pub tracks_as : {p q : List ℕ} {s t : Spot} → Tracks p s → p ≡ q → s ≡ t → Tracks q t
tracks_as {p} {q} {s} {t} h e f = subst (λ x. Tracks x t) e (subst (λ x. Tracks p x) f h)

number_digits : (p : List ℕ) (deletes : Bool) (k j : ℕ) (cs : List ℕ) → AllByRecursion IsDigit cs → Tracks p (InItem deletes k j)
    → Tracks (p ++ cs) (InItem deletes (k + length cs) j)
number_digits p deletes k j [] h t = tracks_as t (sym (append-nil p)) (ap (λ n. InItem deletes n j) (omega arith))
number_digits p deletes k j (c ∷ cs) h t =
    tracks_as (number_digits (p ++ c ∷ []) deletes (k + 1) j cs h.1 (tracks_more p _ _ c t (number_digit deletes k j c h.0)))
    (append_assoc p (c ∷ []) cs) (ap (λ n. InItem deletes n j) (omega arith))

tracks_number : (p : List ℕ) (deletes : Bool) (j : ℕ) (word : List ℕ) → SpellsNumber 18 word → Tracks p (BeforeItem deletes j)
    → Tracks (p ++ (word ++ space ∷ [])) (BeforeItem deletes (j + 1))
tracks_number p deletes j [] h t = absurd h
tracks_number p deletes j (c ∷ cs) h t =
    let first = tracks_more p _ _ c t (item_digit deletes j c h.0 h.1) in
    let digits = number_digits (p ++ c ∷ []) deletes 1 j cs h.2 first in
    tracks_as (tracks_more ((p ++ c ∷ []) ++ cs) _ _ space digits (number_space deletes (1 + length cs) j (omega (arith, h.3))))
    (ap (λ t. t ++ space ∷ []) (append_assoc p (c ∷ []) cs) ∙ append_assoc p (c ∷ cs) (space ∷ [])) refl

tracks_numbers : (p : List ℕ) (deletes : Bool) (j : ℕ) (ns : List ℕ) → AllByRecursion IsStreamNumber ns → Tracks p (BeforeItem deletes j)
    → Tracks (p ++ numbers_text ns) (BeforeItem deletes (j + length ns))
unfolding words_text
tracks_numbers p deletes j [] h t = tracks_as t (sym (append-nil p)) (ap (BeforeItem deletes) (omega arith))
tracks_numbers p deletes j (n ∷ ns) h t =
    tracks_as (tracks_numbers (p ++ (decimal n ++ space ∷ [])) deletes (j + 1) ns h.1
    (tracks_number p deletes j (decimal n) (decimal_word n h.0) t))
    (append_assoc p (decimal n ++ space ∷ []) (numbers_text ns)) (ap (BeforeItem deletes) (omega arith))

pub literal_digits : (p : List ℕ) (imports : Bool) (k n : ℕ) (cs : List ℕ) → AllByRecursion IsDigit cs → Tracks p (InLiteral imports k n)
    → Tracks (p ++ cs) (InLiteral imports (k + length cs) n)
literal_digits p imports k n [] h t = tracks_as t (sym (append-nil p)) (ap (λ x. InLiteral imports x n) (omega arith))
literal_digits p imports k n (c ∷ cs) h t =
    tracks_as (literal_digits (p ++ c ∷ []) imports (k + 1) n cs h.1 (tracks_more p _ _ c t (literal_digit imports k n c h.0)))
    (append_assoc p (c ∷ []) cs) (ap (λ x. InLiteral imports x n) (omega arith))

-- after a literal's first digit, its other digits and a space lead to the spot before the next
-- literal
tracks_rest : (p : List ℕ) (imports : Bool) (n c : ℕ) (cs : List ℕ) → AllByRecursion IsDigit cs → length cs < 18
    → Tracks (p ++ c ∷ []) (InLiteral imports 1 n) → Tracks (p ++ ((c ∷ cs) ++ space ∷ [])) (BeforeLiteral imports (n + 1))
tracks_rest p imports n c cs h few t =
    tracks_as (tracks_more ((p ++ c ∷ []) ++ cs) _ _ space (literal_digits (p ++ c ∷ []) imports 1 n cs h t)
    (literal_space imports (1 + length cs) n (omega arith)))
    (ap (λ t. t ++ space ∷ []) (append_assoc p (c ∷ []) cs) ∙ append_assoc p (c ∷ cs) (space ∷ [])) refl

tracks_literal : (p : List ℕ) (imports : Bool) (n : ℕ) (word : List ℕ) → SpellsLiteral 18 word → Tracks p (BeforeLiteral imports n)
    → Tracks (p ++ (word ++ space ∷ [])) (BeforeLiteral imports (n + 1))
tracks_literal p imports n [] h t = absurd h
tracks_literal p imports n (c ∷ cs) (inl h) t =
    tracks_rest p imports n c cs h.2 h.3 (tracks_more p _ _ c t (body_digit imports n c h.0 h.1))
tracks_literal p imports n (c ∷ []) (inr h) t = absurd h.1
tracks_literal p imports n (c ∷ d ∷ ds) (inr h) t =
    let signed : Tracks (p ++ minus ∷ []) (AfterMinus imports n) = tracks_more p _ _ minus t (body_minus imports n) in
    let digits = tracks_rest (p ++ minus ∷ []) imports n d ds h.1.2 h.1.3
    (tracks_more (p ++ minus ∷ []) _ _ d signed (minus_digit imports n d h.1.0 h.1.1)) in
    tracks_as digits (append_assoc p (minus ∷ []) ((d ∷ ds) ++ space ∷ []) ∙ ap (λ x. p ++ (x ∷ ((d ∷ ds) ++ space ∷ []))) (sym h.0)) refl

pub tracks_literals : (p : List ℕ) (imports : Bool) (n : ℕ) (zs : List ℤ) → AllByRecursion IsStreamLiteral zs
    → Tracks p (BeforeLiteral imports n) → Tracks (p ++ literals_text zs) (BeforeLiteral imports (n + length zs))
unfolding words_text
tracks_literals p imports n [] h t = tracks_as t (sym (append-nil p)) (ap (BeforeLiteral imports) (omega arith))
tracks_literals p imports n (z ∷ zs) h t =
    tracks_as (tracks_literals (p ++ (signed_decimal z ++ space ∷ [])) imports (n + 1) zs h.1
    (tracks_literal p imports n (signed_decimal z) (signed_word z h.0) t))
    (append_assoc p (signed_decimal z ++ space ∷ []) (literals_text zs)) (ap (BeforeLiteral imports) (omega arith))

-- the text of two appended lists is the first one's text and then the second one's
texts_append : {X : Type 0} (f : X → List ℕ) (xs ys : List X) → flat_map f (xs ++ ys) ≡ flat_map f xs ++ flat_map f ys
texts_append f [] ys = refl
texts_append f (x ∷ xs) ys = ap (λ t. f x ++ t) (texts_append f xs ys) ∙ sym (append_assoc (f x) (flat_map f xs) (flat_map f ys))

-- after more elements have been read, the count has grown by their number
count_is : {X : Type 0} (old new more : List X) (first count : ℕ) → first ≤ length old → count ≤ length new
    → take count new ≡ take first old ++ more → count ≡ first + length more
count_is old new more first count first_in count_in is =
    omega (arith, length-take-le count new count_in, length-take-le first old first_in, ap length is, length-append (take first old) more)

pub items_ahead : (m : PartialLine) (v : Vec ℕ Global) (count used : ℕ) (ids piece : List ℕ) → IsPartialLine m → m.state ≡ states.Item
    → v.items ≡ ids → length ids ≡ 65536
    → ReadsWords decimal IsStreamNumber piece 0 m.identities.items m.identity_count ids count used
    → ReadsAhead m piece used (record m { identities = v; identity_count = count })
unfolding pending_at spot_at IsRoomy words_text
items_ahead m v count used ids piece h at items size found =
    let next : PartialLine = record m { identities = v; identity_count = count; state = states.Item } in
    let few : m.identity_count ≤ length m.identities.items = omega (arith, h.room.identities, h.kept.few_identities) in
    let lists : identities_read next ≡ identities_read m ++ found.more = ap (take count) items ∙ found.words in
    let counted : count ≡ m.identity_count + length found.more =
    count_is m.identities.items ids found.more m.identity_count count few found.few found.words in
    let texts : numbers_text (identities_read next) ≡ numbers_text (identities_read m) ++ numbers_text found.more =
    ap numbers_text lists ∙ texts_append (λ n. decimal n ++ space ∷ []) (identities_read m) found.more in
    let here = item_front m in
    let grown : pending next ≡ here ++ numbers_text found.more =
    list_more (list_front m.deletes m.lead (literals_read m)) (identities_read m) (identities_read next) (numbers_text found.more) texts in
    let tracks : Tracks here (BeforeItem m.deletes m.identity_count) = subst (λ p. Tracks (pending_at p m) (spot_at p m)) at h.tracks in
    let result : ReadsAhead m piece used next = record {
      bound = found.inside;
      reads = record {
        room = record { literals = h.room.literals; identities = ap length items ∙ size };
        kept = record {
          lead = h.kept.lead;
          few_literals = h.kept.few_literals;
          few_identities = omega (arith, found.few, size);
          literals = h.kept.literals;
          identities = rw lists (All-append IsStreamNumber (identities_read m) found.more h.kept.identities found.each);
        };
        number = h.number;
        roomy = subst (λ p. IsRoomy p m) at h.roomy;
        tracks = tracks_as (tracks_numbers here m.deletes m.identity_count found.more found.each tracks) (sym grown)
            (ap (BeforeItem m.deletes) (sym counted));
      };
      is = grown ∙ ap (λ p. pending_at p m ++ numbers_text found.more) (sym at) ∙ ap (λ t. pending m ++ t) (sym found.is);
    } in
    rw (sym at) at result

pub literals_ahead : (m : PartialLine) (v : Vec ℤ Global) (count used : ℕ) (lits : List ℤ) (piece : List ℕ) → IsPartialLine m
    → m.state ≡ states.Body → v.items ≡ lits → length lits ≡ 65535
    → ReadsWords signed_decimal IsStreamLiteral piece 0 m.literals.items m.literal_count lits count used
    → ReadsAhead m piece used (record m { literals = v; literal_count = count })
unfolding pending_at spot_at IsRoomy words_text
literals_ahead m v count used lits piece h at items size found =
    let next : PartialLine = record m { literals = v; literal_count = count; state = states.Body } in
    let few : m.literal_count ≤ length m.literals.items = omega (arith, h.room.literals, h.kept.few_literals) in
    let lists : literals_read next ≡ literals_read m ++ found.more = ap (take count) items ∙ found.words in
    let counted : count ≡ m.literal_count + length found.more =
    count_is m.literals.items lits found.more m.literal_count count few found.few found.words in
    let texts : literals_text (literals_read next) ≡ literals_text (literals_read m) ++ literals_text found.more =
    ap literals_text lists ∙ texts_append (λ z. signed_decimal z ++ space ∷ []) (literals_read m) found.more in
    let here = clause_front m.imports m.lead (literals_read m) in
    let grown : pending next ≡ here ++ literals_text found.more =
    clause_more m.imports m.lead (literals_read m) (literals_read next) (literals_text found.more) texts in
    let tracks : Tracks here (BeforeLiteral m.imports m.literal_count) = subst (λ p. Tracks (pending_at p m) (spot_at p m)) at h.tracks in
    let result : ReadsAhead m piece used next = record {
      bound = found.inside;
      reads = record {
        room = record { literals = ap length items ∙ size; identities = h.room.identities };
        kept = record {
          lead = h.kept.lead;
          few_literals = omega (arith, found.few, size);
          few_identities = h.kept.few_identities;
          identities = h.kept.identities;
          literals = rw lists (All-append IsStreamLiteral (literals_read m) found.more h.kept.literals found.each);
        };
        number = h.number;
        roomy = subst (λ p. IsRoomy p m) at h.roomy;
        tracks = tracks_as (tracks_literals here m.imports m.literal_count found.more found.each tracks) (sym grown)
            (ap (BeforeLiteral m.imports) (sym counted));
      };
      is = grown ∙ ap (λ p. pending_at p m ++ literals_text found.more) (sym at) ∙ ap (λ t. pending m ++ t) (sym found.is);
    } in
    rw (sym at) at result
