-- What may follow a byte, for each part of a line: numbers, lists, clauses, lines.
use Rattle.std.proofs.Common.{◌≡◌, ℕ, ◌+◌, ◌<◌, ◌≤◌, ◌⊎◌, inl, inr, Bool, true, false, List, [], ◌∷◌, ◌++◌, length, refl, sym, ◌∙◌, ap}
use Rattle.std.proofs.Common.{subst, arith}
use Rattle.std.specs.Prelude.{MatchBool}
use Rattle.std.specs.List.{AllByRecursion}
use Rattle.lrup_text.specs.internal.ByteNames.{line_feed, letter_d, letter_i, minus, zero_digit}
use Rattle.lrup_text.specs.Writing.{space}
use Rattle.lrup_text.specs.Grammar.{Limits, AreFew, IsDigit, SpellsNumber, SpellsLiteral, IsLine, Words, Adds, Deletes, Imports}
use Rattle.lrup_text.specs.Grammar.{AreWordsWithin, text, list_text, clause_text}
use Rattle.lrup_text.specs.internal.Rests.{SpellsItem, ListFollows, ClauseEnds, ClauseFollows, LiteralsFollow, BodyFollows, DigitsFollow}
use Rattle.lrup_text.specs.internal.Rests.{NumberFollows}

pub same_head : {a b : ℕ} {xs ys : List ℕ} → a ∷ xs ≡ b ∷ ys → a ≡ b
same_head e = cc

pub same_tail : {a b : ℕ} {xs ys : List ℕ} → a ∷ xs ≡ b ∷ ys → xs ≡ ys
same_tail e = cc

-- Digits.

-- a byte after digits is one more digit, or the space after them
pub digits_to : (limits : Limits) (k : ℕ) (Next : List ℕ → Type 0) (b : ℕ) (rest : List ℕ) → DigitsFollow limits k Next (b ∷ rest)
    → (IsDigit b × (k < limits.digits) × DigitsFollow limits (k + 1) Next rest) ⊎ ((b ≡ space) × Next rest)
digits_to limits k Next b rest f = digits_cases f.more f.each f.count f.after f.is f.next
  where
    digits_cases : (more : List ℕ) → AllByRecursion IsDigit more → k + length more ≤ limits.digits → (after : List ℕ)
        → b ∷ rest ≡ more ++ space ∷ after → Next after
        → (IsDigit b × (k < limits.digits) × DigitsFollow limits (k + 1) Next rest) ⊎ ((b ≡ space) × Next rest)
    digits_cases [] each count after is next = inr (same_head is, subst Next (sym (same_tail is)) next)
    digits_cases (c ∷ cs) each count after is next =
        let digit : IsDigit b = subst IsDigit (sym (same_head is)) each.0 in
        inl (digit, omega arith, record { more = cs; each = each.1; count = omega arith; after = after; is = same_tail is; next = next })

pub digits_from_digit : (limits : Limits) (k : ℕ) (Next : List ℕ → Type 0) (b : ℕ) (rest : List ℕ) → IsDigit b
    → DigitsFollow limits (k + 1) Next rest → DigitsFollow limits k Next (b ∷ rest)
digits_from_digit limits k Next b rest digit f =
    let few : (k + 1) + length f.more ≤ limits.digits = f.count in
    record { more = b ∷ f.more; each = (digit, f.each); count = omega arith; after = f.after; is = ap (λ xs. b ∷ xs) f.is; next = f.next }

pub digits_from_space : (limits : Limits) (k : ℕ) (Next : List ℕ → Type 0) (rest : List ℕ) → k ≤ limits.digits → Next rest
    → DigitsFollow limits k Next (space ∷ rest)
digits_from_space limits k Next rest few next = record { more = []; each = tt; count = omega arith; after = rest; is = refl; next = next }

-- a number begins with a digit 1 to 9, and its other digits follow
pub number_to : (limits : Limits) (Next : List ℕ → Type 0) (b : ℕ) (rest : List ℕ) → NumberFollows limits Next (b ∷ rest)
    → (49 ≤ b) × (b ≤ 57) × DigitsFollow limits 1 Next rest
number_to limits Next b rest f =
    let same : b ≡ f.first = same_head f.is in (
      subst (λ x. 49 ≤ x) (sym same) f.low,
      subst (λ x. x ≤ 57) (sym same) f.high,
      subst (DigitsFollow limits 1 Next) (sym (same_tail f.is)) f.digits,
    )

pub number_from : (limits : Limits) (Next : List ℕ → Type 0) (b : ℕ) (rest : List ℕ) → 49 ≤ b → b ≤ 57 → DigitsFollow limits 1 Next rest
    → NumberFollows limits Next (b ∷ rest)
number_from limits Next b rest low high f = record { first = b; low = low; high = high; after = rest; is = refl; digits = f }

-- a word that is a number, and what follows it
pub number_word : (limits : Limits) (Next : List ℕ → Type 0) (c : ℕ) (cs after rest : List ℕ) → SpellsNumber limits.digits (c ∷ cs)
    → rest ≡ cs ++ space ∷ after → Next after → DigitsFollow limits 1 Next rest
number_word limits Next c cs after rest h is next =
    let few : length cs < limits.digits = h.3 in
    record { more = cs; each = h.2; count = omega arith; after = after; is = is; next = next }

pub word_of_number : (limits : Limits) (Next : List ℕ → Type 0) (b : ℕ) (rest : List ℕ) → 49 ≤ b → b ≤ 57
    → (f : DigitsFollow limits 1 Next rest) → SpellsNumber limits.digits (b ∷ f.more)
word_of_number limits Next b rest low high f =
    let few : 1 + length f.more ≤ limits.digits = f.count in
    (low, high, f.each, omega arith)

-- Lists.

-- a list's text without its first space
abbrev pub list_rest : List (List ℕ) → List ℕ
list_rest [] = zero_digit ∷ line_feed ∷ []
list_rest (w ∷ ws) = w ++ list_text ws

pub list_text-space : (ws : List (List ℕ)) → list_text ws ≡ space ∷ list_rest ws
list_text-space [] = refl
list_text-space (w ∷ ws) = refl

pub list_to_space : (limits : Limits) (deletes : Bool) (j b : ℕ) (rest : List ℕ) → ListFollows limits deletes j (b ∷ rest) → b ≡ space
list_to_space limits deletes j b rest f = same_head (f.is ∙ list_text-space f.words)

-- an item is a number or, if hints may be signed, a sign and a number
pub data ItemKind (digits : ℕ) (signed deletes : Bool) : List ℕ → Type 0 where
  unsigned : {word : List ℕ} → SpellsNumber digits word → ItemKind digits signed deletes word
  negative : {c : ℕ} {cs : List ℕ} → c ≡ minus → deletes ≡ false → signed ≡ true → ItemKind digits signed deletes (c ∷ cs)

literal_kind : (digits : ℕ) (word : List ℕ) → SpellsLiteral digits word → ItemKind digits true false word
literal_kind digits [] h = absurd h
literal_kind digits (c ∷ cs) (inl h) = unsigned h
literal_kind digits (c ∷ cs) (inr h) = negative h.0 refl refl

pub item_kind : (digits : ℕ) (signed deletes : Bool) (word : List ℕ)
    → MatchBool deletes (SpellsNumber digits word) (MatchBool signed (SpellsLiteral digits word) (SpellsNumber digits word))
    → ItemKind digits signed deletes word
item_kind digits signed true word h = unsigned h
item_kind digits true false word h = literal_kind digits word h
item_kind digits false false word h = unsigned h

pub literal_of_number : (digits : ℕ) (word : List ℕ) → SpellsNumber digits word → SpellsLiteral digits word
literal_of_number digits [] h = h
literal_of_number digits (c ∷ cs) h = inl h

pub item_of_number : (digits : ℕ) (signed deletes : Bool) (word : List ℕ) → SpellsNumber digits word
    → MatchBool deletes (SpellsNumber digits word) (MatchBool signed (SpellsLiteral digits word) (SpellsNumber digits word))
item_of_number digits signed true word h = h
item_of_number digits true false word h = literal_of_number digits word h
item_of_number digits false false word h = h

-- what follows j items: the closing 0, a number, or a sign
pub data ItemTo (limits : Limits) (deletes : Bool) (j b : ℕ) (rest : List ℕ) : Type 0 where
  closes : b ≡ zero_digit → rest ≡ line_feed ∷ [] → ItemTo limits deletes j b rest
  numbers : 49 ≤ b → b ≤ 57 → j < limits.identities
      → DigitsFollow limits 1 (λ after. ListFollows limits deletes (j + 1) (space ∷ after)) rest → ItemTo limits deletes j b rest
  signs : b ≡ minus → deletes ≡ false → limits.signed ≡ true → ItemTo limits deletes j b rest

module _ (limits : Limits) (deletes : Bool) (j b : ℕ) (rest : List ℕ) where
  item_word : (word : List ℕ) (ws : List (List ℕ)) → ItemKind limits.digits limits.signed deletes word
      → AllByRecursion (SpellsItem limits deletes) ws
      → (j + 1) + length ws ≤ limits.identities → b ∷ rest ≡ word ++ list_text ws → ItemTo limits deletes j b rest
  item_word [] ws (unsigned h) each count is = absurd h
  item_word (c ∷ cs) ws (unsigned h) each count is =
      let same : b ≡ c = same_head is in
      let next : ListFollows limits deletes (j + 1) (space ∷ list_rest ws) = record {
        words = ws;
        count = count;
        each = each;
        is = sym (list_text-space ws);
      } in
      numbers (subst (λ x. 49 ≤ x) (sym same) h.0) (subst (λ x. x ≤ 57) (sym same) h.1) (omega arith)
      (number_word limits _ c cs (list_rest ws) rest h (same_tail is ∙ ap (λ t. cs ++ t) (list_text-space ws)) next)
  item_word (c ∷ cs) ws (negative m d s) each count is = signs (same_head is ∙ m) d s

  pub item_to : ListFollows limits deletes j (space ∷ b ∷ rest) → ItemTo limits deletes j b rest
  item_to f = cases f.words f.each f.count f.is
    where
      cases : (ws : List (List ℕ)) → AllByRecursion (SpellsItem limits deletes) ws → j + length ws ≤ limits.identities
          → space ∷ b ∷ rest ≡ list_text ws → ItemTo limits deletes j b rest
      cases [] each count is = closes (same_head (same_tail is)) (same_tail (same_tail is))
      cases (w ∷ ws) each count is =
          item_word w ws (item_kind limits.digits limits.signed deletes w each.0) each.1 (omega arith) (same_tail is)

pub item_from_zero : (limits : Limits) (deletes : Bool) (j : ℕ) → j ≤ limits.identities
    → ListFollows limits deletes j (space ∷ zero_digit ∷ line_feed ∷ [])
item_from_zero limits deletes j few = record { words = []; count = omega arith; each = tt; is = refl }

pub item_from_digit : (limits : Limits) (deletes : Bool) (j b : ℕ) (rest : List ℕ) → 49 ≤ b → b ≤ 57
    → DigitsFollow limits 1 (λ after. ListFollows limits deletes (j + 1) (space ∷ after)) rest
    → ListFollows limits deletes j (space ∷ b ∷ rest)
item_from_digit limits deletes j b rest low high f =
    let few : (j + 1) + length f.next.words ≤ limits.identities = f.next.count in
    let word : SpellsNumber limits.digits (b ∷ f.more) = word_of_number limits _ b rest low high f in
    record {
      words = (b ∷ f.more) ∷ f.next.words;
      count = omega arith;
      each = (item_of_number limits.digits limits.signed deletes (b ∷ f.more) word, f.next.each);
      is = ap (λ t. space ∷ b ∷ t) (f.is ∙ ap (λ t. f.more ++ t) f.next.is);
    }

-- Clauses.

-- what follows n literals: the closing 0, a number, or a sign
pub data ClauseTo (limits : Limits) (imports : Bool) (n b : ℕ) (rest : List ℕ) : Type 0 where
  closes : b ≡ zero_digit → ClauseEnds limits imports rest → ClauseTo limits imports n b rest
  numbers : 49 ≤ b → b ≤ 57 → n < limits.literals → DigitsFollow limits 1 (ClauseFollows limits imports (n + 1)) rest
      → ClauseTo limits imports n b rest
  signs : b ≡ minus → n < limits.literals → NumberFollows limits (ClauseFollows limits imports (n + 1)) rest
      → ClauseTo limits imports n b rest

module _ (limits : Limits) (imports : Bool) (n b : ℕ) (rest after : List ℕ) (end : ClauseEnds limits imports after) where
  literal_word : (word : List ℕ) (ws : List (List ℕ)) → SpellsLiteral limits.digits word → AllByRecursion (SpellsLiteral limits.digits) ws
      → (n + 1) + length ws ≤ limits.literals → b ∷ rest ≡ word ++ space ∷ clause_text ws after → ClauseTo limits imports n b rest
  literal_word [] ws h each count is = absurd h
  literal_word (c ∷ cs) ws (inl h) each count is =
      let same : b ≡ c = same_head is in
      let next : ClauseFollows limits imports (n + 1) (clause_text ws after) =
      record { words = ws; count = count; each = each; after = after; is = refl; end = end } in
      numbers (rw same h.0) (rw same h.1) (omega arith)
      (number_word limits _ c cs (clause_text ws after) rest h (same_tail is) next)
  literal_word (c ∷ []) ws (inr h) each count is = absurd h.1
  literal_word (c ∷ d ∷ ds) ws (inr h) each count is =
      let next : ClauseFollows limits imports (n + 1) (clause_text ws after) =
      record { words = ws; count = count; each = each; after = after; is = refl; end = end } in
      let number : NumberFollows limits (ClauseFollows limits imports (n + 1)) (d ∷ (ds ++ space ∷ clause_text ws after)) =
      number_from limits _ d _ h.1.0 h.1.1 (number_word limits _ d ds (clause_text ws after) _ h.1 refl next) in
      signs (same_head is ∙ h.0) (omega arith) (rw (same_tail is) number)

  clause_words : (ws : List (List ℕ)) → AllByRecursion (SpellsLiteral limits.digits) ws → n + length ws ≤ limits.literals
      → b ∷ rest ≡ clause_text ws after → ClauseTo limits imports n b rest
  clause_words [] each count is = closes (same_head is) (subst (ClauseEnds limits imports) (sym (same_tail is)) end)
  clause_words (w ∷ ws) each count is = literal_word w ws each.0 each.1 (omega arith) is

pub clause_to : (limits : Limits) (imports : Bool) (n b : ℕ) (rest : List ℕ) → ClauseFollows limits imports n (b ∷ rest)
    → ClauseTo limits imports n b rest
clause_to limits imports n b rest f = clause_words limits imports n b rest f.after f.end f.words f.each f.count f.is

pub clause_from_zero : (limits : Limits) (imports : Bool) (n : ℕ) (rest : List ℕ) → n ≤ limits.literals → ClauseEnds limits imports rest
    → ClauseFollows limits imports n (zero_digit ∷ rest)
clause_from_zero limits imports n rest few end = record { words = []; count = omega arith; each = tt; after = rest; is = refl; end = end }

pub clause_from_digit : (limits : Limits) (imports : Bool) (n b : ℕ) (rest : List ℕ) → 49 ≤ b → b ≤ 57
    → DigitsFollow limits 1 (ClauseFollows limits imports (n + 1)) rest → ClauseFollows limits imports n (b ∷ rest)
clause_from_digit limits imports n b rest low high f =
    let few : (n + 1) + length f.next.words ≤ limits.literals = f.next.count in
    let word : SpellsNumber limits.digits (b ∷ f.more) = word_of_number limits _ b rest low high f in
    record {
      words = (b ∷ f.more) ∷ f.next.words;
      count = omega arith;
      each = (inl word, f.next.each);
      after = f.next.after;
      is = ap (λ t. b ∷ t) (f.is ∙ ap (λ t. f.more ++ space ∷ t) f.next.is);
      end = f.next.end;
    }

pub clause_from_minus : (limits : Limits) (imports : Bool) (n : ℕ) (rest : List ℕ)
    → NumberFollows limits (ClauseFollows limits imports (n + 1)) rest → ClauseFollows limits imports n (minus ∷ rest)
clause_from_minus limits imports n rest f =
    let few : (n + 1) + length f.digits.next.words ≤ limits.literals = f.digits.next.count in
    let word : SpellsNumber limits.digits (f.first ∷ f.digits.more) = word_of_number limits _ f.first f.after f.low f.high f.digits in
    record {
      words = (minus ∷ f.first ∷ f.digits.more) ∷ f.digits.next.words;
      count = omega arith;
      each = (inr (refl, word), f.digits.next.each);
      after = f.digits.next.after;
      is = ap (λ t. minus ∷ t) (f.is ∙ ap (λ t. f.first ∷ t) (f.digits.is ∙ ap (λ t. f.digits.more ++ space ∷ t) f.digits.next.is));
      end = f.digits.next.end;
    }

-- Lines.

list_of_words : (limits : Limits) (deletes : Bool) (ws : List (List ℕ)) → AreFew limits.identities (SpellsItem limits deletes) ws
    → ListFollows limits deletes 0 (list_text ws)
list_of_words limits deletes ws h =
    let few : length ws ≤ limits.identities = h.count in
    record { words = ws; count = omega arith; each = h.each; is = refl }

words_of_list : (limits : Limits) (deletes : Bool) (rest : List ℕ) (f : ListFollows limits deletes 0 rest)
    → AreFew limits.identities (SpellsItem limits deletes) f.words
words_of_list limits deletes rest f =
    let few : 0 + length f.words ≤ limits.identities = f.count in
    record { count = omega arith; each = f.each }

-- the text of an import's literals, with a space before each, is a space and then the text of a
-- clause
pub list_is_clause : (ws : List (List ℕ)) → list_text ws ≡ space ∷ clause_text ws (line_feed ∷ [])
list_is_clause [] = refl
list_is_clause (w ∷ ws) = ap (λ t. space ∷ (w ++ t)) (list_is_clause ws)

literals_of_words : (limits : Limits) (ws : List (List ℕ)) → AreFew limits.literals (SpellsLiteral limits.digits) ws
    → LiteralsFollow limits (list_text ws)
literals_of_words limits ws h =
    let few : length ws ≤ limits.literals = h.count in
    record {
      after = clause_text ws (line_feed ∷ []);
      is = list_is_clause ws;
      clause = record { words = ws; count = omega arith; each = h.each; after = line_feed ∷ []; is = refl; end = refl };
    }

words_of_literals : (limits : Limits) (rest : List ℕ) (f : LiteralsFollow limits rest)
    → AreFew limits.literals (SpellsLiteral limits.digits) f.clause.words
words_of_literals limits rest f =
    let few : 0 + length f.clause.words ≤ limits.literals = f.clause.count in
    record { count = omega arith; each = f.clause.each }

literals_are : (limits : Limits) (rest : List ℕ) (f : LiteralsFollow limits rest) → rest ≡ list_text f.clause.words
literals_are limits rest f = f.is ∙ ap (λ t. space ∷ t) (f.clause.is ∙ ap (clause_text f.clause.words) f.clause.end)
    ∙ sym (list_is_clause f.clause.words)

pub line_to : (limits : Limits) (bytes : List ℕ) → IsLine limits bytes → NumberFollows limits (BodyFollows limits false 0) bytes
line_to limits bytes line = cases line.0 line.1 line.2
  where
    start : (word after : List ℕ) → SpellsNumber limits.digits word → bytes ≡ word ++ space ∷ after → BodyFollows limits false 0 after
        → NumberFollows limits (BodyFollows limits false 0) bytes
    start [] after h is body = absurd h
    start (c ∷ cs) after h is body = rw is (number_from limits _ c _ h.0 h.1 (number_word limits _ c cs after _ h refl body))

    cases : (words : Words) → AreWordsWithin limits words → bytes ≡ text words → NumberFollows limits (BodyFollows limits false 0) bytes
    cases (Adds id lits hints) h is =
        let few : length lits ≤ limits.literals = h.1.count in
        start id (clause_text lits (list_text hints)) h.0 is
        (inl (record {
          words = lits;
          count = omega arith;
          each = h.1.each;
          after = list_text hints;
          is = refl;
          end = list_of_words limits false hints h.2;
        }))
    cases (Deletes lead ids) h is =
        start lead (letter_d ∷ list_text ids) h.0 is
        (inr (refl, refl, inl (record { after = list_text ids; is = refl; ids = list_of_words limits true ids h.1 })))
    cases (Imports id lits) h is =
        start id (letter_i ∷ list_text lits) h.0 is
        (inr (refl, refl, inr (record { after = list_text lits; is = refl; lits = literals_of_words limits lits h.1 })))

pub line_from : (limits : Limits) (bytes : List ℕ) → NumberFollows limits (BodyFollows limits false 0) bytes → IsLine limits bytes
line_from limits bytes f = cases f.digits.next
  where
    word : SpellsNumber limits.digits (f.first ∷ f.digits.more)
    word = word_of_number limits _ f.first f.after f.low f.high f.digits

    is : (after : List ℕ) → f.digits.after ≡ after → bytes ≡ (f.first ∷ f.digits.more) ++ space ∷ after
    is after e = f.is ∙ ap (λ t. f.first ∷ t) (f.digits.is ∙ ap (λ t. f.digits.more ++ space ∷ t) e)

    cases : BodyFollows limits false 0 f.digits.after → IsLine limits bytes
    cases (inl c) =
        let few : 0 + length c.words ≤ limits.literals = c.count in
        let lits : AreFew limits.literals (SpellsLiteral limits.digits) c.words = record { count = omega arith; each = c.each } in (
          Adds (f.first ∷ f.digits.more) c.words c.end.words,
          (word, lits, words_of_list limits false c.after c.end),
          is _ (c.is ∙ ap (clause_text c.words) c.end.is),
        )
    cases (inr (_, _, inl d)) = (
      Deletes (f.first ∷ f.digits.more) d.ids.words,
      (word, words_of_list limits true d.after d.ids),
      is _ (d.is ∙ ap (λ t. letter_d ∷ t) d.ids.is),
    )
    cases (inr (_, _, inr i)) = (
      Imports (f.first ∷ f.digits.more) i.lits.clause.words,
      (word, words_of_literals limits i.after i.lits),
      is _ (i.is ∙ ap (λ t. letter_i ∷ t) (literals_are limits i.after i.lits)),
    )
