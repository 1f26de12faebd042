-- A file is a text of a formula exactly if the file's tokens, read one by one, spell the formula.
use Rattle.std.proofs.Common.{inl, inr, ◌≡◌, ◌+◌, ◌-◌, ◌*◌, ◌^◌, ◌<◌, ◌≤◌, ◌&&◌, ◌==◌, ℕ, ℤ, pos, negsuc, neg_ℤ, nat_abs, zero, suc, true}
use Rattle.std.proofs.Common.{false, not, leb, List, [], ◌∷◌, ◌++◌, codes, map, flat_map, filter, length, get_or, Option, Some, None, refl}
use Rattle.std.proofs.Common.{sym, ap, ◌∙◌, subst, arith}
use Rattle.std.specs.Fmt.{decimal, signed_decimal}
use Rattle.std.specs.List.{AllByRecursion, slice_split}
use Rattle.std.proofs.lemmas.Bool.{and_from, and_parts, cases_Bool, eqb-true, le-leb, leb-true, ne_eqb}
use Rattle.std.proofs.lemmas.Fmt.{decimal_digit, first_decimal, digits_decimal, digits_value-decimal, decimal-digits_value}
use Rattle.std.proofs.lemmas.List.{append-nil, length-map, map-append}
use Rattle.std.proofs.lemmas.Str.Parse.{IsNumeralModel, IsDigitsTest, FoldsDigits, numerals_by_fold}
use Rattle.lrup_model.specs.Clause.{Clause}
use Rattle.lrup_model.specs.Distinct.{distinct}
use Rattle.lrup_model.specs.lemmas.DistinctLemmas.{Has-distinct, Has-from_distinct, IsClause-distinct}
use Rattle.lrup_model.specs.Formula.{Cnf, max_clause_literals}
use Rattle.lrup_model.specs.lemmas.ListLemmas.{All-append, All-map}
use Rattle.lrup_model.specs.Literal.{IsLiteral, max_variable}
use Rattle.dimacs.specs.Lines.{Line, Token, is_comment, is_empty, runs, lines_from, lines_of, tokens_of, all_tokens, token_lines}
use Rattle.dimacs.specs.Numerals.{is_digit, all_digits, value_after, value, is_numeral, is_zero, negative_of, number_of}
use Rattle.dimacs.specs.FormulaText.{IsFormulaText}
use Rattle.dimacs.specs.FormulaTokens.{IsCount, IsHeader, InBodyOf, InBody, IsWritten, IsSetOf, AreSetsOf, AreClauses, ended}
use Rattle.dimacs.proofs.NumeralLemmas.{value_after-le}
use Rattle.dimacs.proofs.TokenLemmas.{negative}

-- ## numbers

says : IsDigitsTest (λ ds. all_digits ds ≡ true)
says = record {
  empty = refl;
  parts = λ c cs e. let k = and_parts (is_digit c) (all_digits cs) e in let m = and_parts (leb 48 c) (leb c 57) k.0 in
      ((leb-true 48 c m.0, leb-true c 57 m.1), k.1);
  more = λ c cs k e. and_from (is_digit c) (all_digits cs) (and_from (leb 48 c) (leb c 57) (le-leb 48 c k.0) (le-leb c 57 k.1)) e;
}

folds : FoldsDigits value_after
folds = record { empty = λ n. refl; more = λ n c cs k. ap (λ (m : ℕ). value_after (m + (c - 48)) cs) (omega arith) }

own : IsNumeralModel (λ ds. all_digits ds ≡ true) value
own = numerals_by_fold (λ ds. all_digits ds ≡ true) says value_after folds

-- digits that don't begin with 0 are a numeral
numeral_from : (ds : List ℕ) → 48 < get_or ds 0 0 → all_digits ds ≡ true → (is_zero ds ≡ false) × (is_numeral ds ≡ true)
numeral_from [] some all = absurd (omega (arith, some))
numeral_from (b ∷ bs) some all =
    let low : 48 < b = some in
    let k = and_parts (is_digit b) (all_digits bs) all in
    let m = and_parts (leb 48 b) (leb b 57) k.0 in (
      not_zero b bs low,
      and_from (leb 49 b && leb b 57) (all_digits bs) (and_from (leb 49 b) (leb b 57) (le-leb 49 b (omega arith)) m.1) k.1,
    )
  where
    not_zero : (b : ℕ) (bs : List ℕ) → 48 < b → is_zero (b ∷ bs) ≡ false
    not_zero b [] low = ne_eqb b 48 (λ e. omega (arith, e, low))
    not_zero b (c ∷ bs) low = refl

decimal_numeral : (n : ℕ) → 0 < n → n < 2 ^ 64 → (is_zero (decimal n) ≡ false) × (is_numeral (decimal n) ≡ true)
decimal_numeral n some fits = numeral_from (decimal n) (first_decimal n some fits) (digits_decimal own n fits)

numeral_parts : (b : ℕ) (bs : List ℕ) → is_numeral (b ∷ bs) ≡ true → (49 ≤ b) × (all_digits (b ∷ bs) ≡ true)
numeral_parts b bs is =
    let k = and_parts (leb 49 b && leb b 57) (all_digits bs) is in
    let m = and_parts (leb 49 b) (leb b 57) k.0 in
    let low : 49 ≤ b = leb-true 49 b m.0 in
    (low, and_from (is_digit b) (all_digits bs) (and_from (leb 48 b) (leb b 57) (le-leb 48 b (omega arith)) m.1) k.1)

numeral_decimal : (ds : List ℕ) → is_numeral ds ≡ true → value ds < 2 ^ 64 → (decimal (value ds) ≡ ds) × (0 < value ds)
numeral_decimal [] is fits = cc
numeral_decimal (b ∷ bs) is fits =
    let parts = numeral_parts b bs is in
    let least = value_after-le (10 * 0 + (b - 48)) bs in (
      decimal-digits_value own (b ∷ bs) parts.1 (omega arith) (λ e. absurd (let same : b ≡ 48 = e in omega (arith, same, parts.0))) fits,
      omega (arith, least, parts.0),
    )

zero_text : (text : List ℕ) → is_zero text ≡ true → text ≡ 48 ∷ []
zero_text [] is = cc
zero_text (b ∷ []) is = ap (λ (x : ℕ). x ∷ []) (eqb-true b 48 is)
zero_text (b ∷ c ∷ bs) is = cc

-- ## a count

count_text : (text : List ℕ) (n : ℕ) → n < 2 ^ 64 → IsCount text n → text ≡ decimal n
count_text text n fits h =
    elim (cases_Bool (is_zero text)) [
      | inl holds ↦
          let one = zero_text text holds in
          let none : 0 ≡ n = ap value (sym one) ∙ h.1 in
          one ∙ sym (decimal_digit 0 (omega arith)) ∙ ap decimal none
      | inr fails ↦
          let numeral : is_numeral text ≡ true = rw fails at h.0 in
          sym (numeral_decimal text numeral (omega (arith, h.1))).0 ∙ ap decimal h.1
    ]

text_count : (n : ℕ) → n < 2 ^ 64 → IsCount (decimal n) n
text_count zero fits = subst (λ (x : List ℕ). IsCount x 0) (sym (decimal_digit 0 (omega arith))) (refl, refl)
text_count (suc n) fits =
    let shape = decimal_numeral (suc n) (omega arith) fits in
    (rw (shape.0, shape.1) refl, digits_value-decimal own (suc n) fits)

-- ## a number of a clause

minus_text : (m : ℕ) → 0 < m → signed_decimal (neg_ℤ (pos m)) ≡ 45 ∷ decimal m
minus_text zero some = absurd (omega arith)
minus_text (suc m) some = refl

abs_minus : (m : ℕ) → nat_abs (neg_ℤ (pos m)) ≡ m
abs_minus zero = refl
abs_minus (suc m) = refl

negative_text : (text : List ℕ) (z : ℤ) → nat_abs z < 2 ^ 64 → negative_of text ≡ Some z → text ≡ signed_decimal z
negative_text [] z fits h = cc
negative_text (b ∷ digits) z fits h =
    elim (cases_Bool (b == 45 && is_numeral digits)) [
      | inl holds ↦
          let parts = and_parts (b == 45) (is_numeral digits) holds in
          let found : Some (neg_ℤ (pos (value digits))) ≡ Some z = rw holds at h in
          let same : neg_ℤ (pos (value digits)) ≡ z = cc in
          let is = numeral_decimal digits parts.1 (omega (arith, fits, ap nat_abs same, abs_minus (value digits))) in
          ap (λ (x : ℕ). x ∷ digits) (eqb-true b 45 parts.0) ∙ ap (λ (x : List ℕ). 45 ∷ x) (sym is.0) ∙ sym (minus_text (value digits) is.1)
          ∙ ap signed_decimal same
      | inr fails ↦ let none : ◌≡◌ {A = Option ℤ} None (Some z) = rw fails at h in cc
    ]

pub number_text : (text : List ℕ) (z : ℤ) → nat_abs z < 2 ^ 64 → number_of text ≡ Some z → text ≡ signed_decimal z
unfolding number_of
number_text text z fits h =
    elim (cases_Bool (is_zero text)) [
      | inl holds ↦
          let found : Some (pos 0) ≡ Some z = rw holds at h in
          let same : pos 0 ≡ z = cc in
          zero_text text holds ∙ sym (decimal_digit 0 (omega arith)) ∙ ap signed_decimal same
      | inr fails ↦ elim (cases_Bool (is_numeral text)) [
        | inl holds ↦
            let found : Some (pos (value text)) ≡ Some z = rw (fails, holds) at h in
            let same : pos (value text) ≡ z = cc in
            sym (numeral_decimal text holds (omega (arith, fits, ap nat_abs same))).0 ∙ ap signed_decimal same
        | inr other ↦ negative_text text z fits (rw (fails, other) at h)
      ]
    ]

pub text_number : (z : ℤ) → nat_abs z < 2 ^ 64 → number_of (signed_decimal z) ≡ Some z
unfolding number_of
text_number (pos zero) fits = ap number_of (decimal_digit 0 (omega arith))
text_number (pos (suc n)) fits =
    let shape = decimal_numeral (suc n) (omega arith) fits in
    rw (shape.0, shape.1) (ap (λ (m : ℕ). Some (pos m)) (digits_value-decimal own (suc n) fits))
text_number (negsuc n) fits =
    let shape = decimal_numeral (suc n) (omega arith) fits in
    negative (decimal (suc n)) shape.1 ∙ ap (λ (m : ℕ). Some (neg_ℤ (pos m))) (digits_value-decimal own (suc n) fits)

-- ## the numbers of tokens

abbrev Fits : ℤ → Type 0
Fits z = nat_abs z < 2 ^ 64

texts_from_numbers : (tokens : List Token) (zs : List ℤ) → AllByRecursion Fits zs
    → map (λ (t : Token). number_of t.text) tokens ≡ map (λ (z : ℤ). Some z) zs → map (λ (t : Token). t.text) tokens ≡ map signed_decimal zs
texts_from_numbers [] [] all e = refl
texts_from_numbers [] (z ∷ zs) all e = cc
texts_from_numbers (t ∷ tokens) [] all e = cc
texts_from_numbers (t ∷ tokens) (z ∷ zs) all e =
    let head : number_of t.text ≡ Some z = cc in
    let tail : map (λ (u : Token). number_of u.text) tokens ≡ map (λ (y : ℤ). Some y) zs = cc in
    ap (λ (x : List ℕ). x ∷ map (λ (u : Token). u.text) tokens) (number_text t.text z all.0 head)
    ∙ ap (λ (x : List (List ℕ)). signed_decimal z ∷ x) (texts_from_numbers tokens zs all.1 tail)

numbers_from_texts : (tokens : List Token) (zs : List ℤ) → AllByRecursion Fits zs
    → map (λ (t : Token). t.text) tokens ≡ map signed_decimal zs → map (λ (t : Token). number_of t.text) tokens ≡ map (λ (z : ℤ). Some z) zs
numbers_from_texts [] [] all e = refl
numbers_from_texts [] (z ∷ zs) all e = cc
numbers_from_texts (t ∷ tokens) [] all e = cc
numbers_from_texts (t ∷ tokens) (z ∷ zs) all e =
    let head : t.text ≡ signed_decimal z = cc in
    let tail : map (λ (u : Token). u.text) tokens ≡ map signed_decimal zs = cc in
    ap (λ (x : Option ℤ). x ∷ map (λ (u : Token). number_of u.text) tokens) (ap number_of head ∙ text_number z all.0)
    ∙ ap (λ (x : List (Option ℤ)). Some z ∷ x) (numbers_from_texts tokens zs all.1 tail)

all_fit : (vars : ℕ) (written : List (List ℤ)) → vars ≤ max_variable → AllByRecursion (AllByRecursion (IsLiteral vars)) written
    → AllByRecursion Fits (flat_map ended written)
all_fit vars [] few all = tt
all_fit vars (c ∷ written) few all =
    let zero_fits : Fits (pos 0) = omega arith in
    let first = All-map (IsLiteral vars) Fits (λ z is. omega (arith, few, is.1)) c all.0 in
    All-append Fits (ended c) (flat_map ended written) (All-append Fits c (pos 0 ∷ []) first (zero_fits, tt))
    (all_fit vars written few all.1)

-- ## lines

lines_tokens : (n : ℕ) (pieces : List (List ℕ)) → map (λ (l : Line). l.tokens) (lines_from n pieces)
    ≡ filter (λ tokens. not (is_empty tokens)) (map runs (filter (λ line. not (is_comment line)) pieces))
lines_tokens n [] = refl
lines_tokens n (line ∷ pieces) =
    let below = lines_tokens (n + 1) pieces in
    elim (cases_Bool (is_comment line)) [
      | inl holds ↦ rw holds below
      | inr fails ↦ elim (cases_Bool (is_empty (runs line))) [
        | inl none ↦ rw (fails, none) below
        | inr some ↦ rw (fails, some) (ap (λ (x : List (List (List ℕ))). runs line ∷ x) below)
      ]
    ]

token_lines_are : (bytes : List ℕ) → map (λ (l : Line). l.tokens) (lines_of bytes) ≡ token_lines bytes
token_lines_are bytes = lines_tokens 1 (slice_split (λ b. b == 10) bytes)

line_texts : (l : Line) (tokens : List (List ℕ)) → map (λ (t : Token). t.text) (tokens_of (record l { tokens = tokens })) ≡ tokens
line_texts l [] = refl
line_texts l (text ∷ tokens) = ap (λ (x : List (List ℕ)). text ∷ x) (line_texts l tokens)

all_texts : (lines : List Line)
    → map (λ (t : Token). t.text) (all_tokens lines) ≡ flat_map (λ (line : List (List ℕ)). line) (map (λ (l : Line). l.tokens) lines)
all_texts [] = refl
all_texts (l ∷ lines) =
    map-append (λ (t : Token). t.text) (tokens_of l) (all_tokens lines)
    ∙ ap (λ (x : List (List ℕ)). x ++ map (λ (t : Token). t.text) (all_tokens lines)) (line_texts l l.tokens)
    ∙ ap (λ (x : List (List ℕ)). l.tokens ++ x) (all_texts lines)

-- ## the header

header_tokens : (tokens : List (List ℕ)) (vars count : ℕ) → vars < 2 ^ 64 → count < 2 ^ 64 → IsHeader tokens vars count
    → tokens ≡ codes "p" ∷ codes "cnf" ∷ decimal vars ∷ decimal count ∷ []
header_tokens (p ∷ cnf ∷ x ∷ y ∷ []) vars count v c h =
    let e = h.0 in
    let f = h.1 in
    let g = count_text x vars v h.2 in
    let k = count_text y count c h.3 in
    cc
header_tokens _ vars count v c h = absurd h

tokens_header : (tokens : List (List ℕ)) (vars count : ℕ) → vars < 2 ^ 64 → count < 2 ^ 64
    → tokens ≡ codes "p" ∷ codes "cnf" ∷ decimal vars ∷ decimal count ∷ [] → IsHeader tokens vars count
tokens_header tokens vars count v c e = rw e (refl, refl, text_count vars v, text_count count c)

-- ## the clauses

set_distinct : (vars : ℕ) (w : List ℤ) → AllByRecursion (IsLiteral vars) w → IsSetOf w (distinct w)
set_distinct vars w all = record {
  members = λ l. (Has-from_distinct w l, Has-distinct w l);
  each_once = (IsClause-distinct vars w all).each_once;
  order = refl;
}

sets_distinct : (vars : ℕ) (written : List (List ℤ)) → AllByRecursion (AllByRecursion (IsLiteral vars)) written
    → AreSetsOf written (map distinct written)
sets_distinct vars [] all = tt
sets_distinct vars (w ∷ written) all = (set_distinct vars w all.0, sets_distinct vars written all.1)

distinct_sets : (written : List (List ℤ)) (clauses : List Clause) → AreSetsOf written clauses → clauses ≡ map distinct written
distinct_sets [] [] h = refl
distinct_sets [] (c ∷ clauses) h = absurd h
distinct_sets (w ∷ written) [] h = absurd h
distinct_sets (w ∷ written) (c ∷ clauses) h =
    ap (λ (x : Clause). x ∷ clauses) h.0.order ∙ ap (λ (x : List Clause). distinct w ∷ x) (distinct_sets written clauses h.1)

all_written : (vars : ℕ) (written : List (List ℤ)) → AllByRecursion (AllByRecursion (IsLiteral vars)) written
    → AllByRecursion (λ (c : List ℤ). length c ≤ max_clause_literals) written → AllByRecursion (IsWritten vars) written
all_written vars [] literals sizes = tt
all_written vars (w ∷ written) literals sizes =
    (record { within = literals.0; size = sizes.0 }, all_written vars written literals.1 sizes.1)

-- ## both directions

body_from : (bytes : List ℕ) (f : Cnf) (lines : List Line) → map (λ (l : Line). l.tokens) lines ≡ token_lines bytes → IsFormulaText bytes f
    → InBodyOf lines (AreClauses f)
body_from bytes f [] are h = let e = h.header in cc
body_from bytes f (header ∷ lines) are h =
    let whole = are ∙ h.header in
    let first : header.tokens ≡ codes "p" ∷ codes "cnf" ∷ decimal f.vars ∷ decimal (length f.clauses) ∷ [] = cc in
    let rest : map (λ (l : Line). l.tokens) lines ≡ h.lines = cc in
    let count : length h.written ≡ length f.clauses = sym (ap length h.clauses ∙ length-map h.written distinct) in
    let texts : map (λ (t : Token). t.text) (all_tokens lines) ≡ map signed_decimal (flat_map ended h.written) =
    all_texts lines ∙ ap (flat_map (λ (line : List (List ℕ)). line)) rest ∙ h.tokens in
    record {
      vars = f.vars;
      count = length f.clauses;
      spelled = tokens_header header.tokens f.vars (length f.clauses) (omega (arith, h.few_variables)) (omega (arith, h.few_clauses)) first;
      few_variables = h.few_variables;
      few_clauses = h.few_clauses;
      later = record {
        written = h.written;
        vars_are = refl;
        count_is = refl;
        read = record {
          numbers =
              numbers_from_texts (all_tokens lines) (flat_map ended h.written) (all_fit f.vars h.written h.few_variables h.literals) texts
              ∙ ap (map (λ (z : ℤ). Some z)) (sym (append-nil (flat_map ended h.written)));
          closed_within = all_written f.vars h.written h.literals h.sizes;
          begun_within = record { within = tt; size = omega arith };
          closed_count = omega (arith, count);
          begun_count = λ some. absurd (omega (arith, some));
        };
        sets = subst (AreSetsOf h.written) (sym h.clauses) (sets_distinct f.vars h.written h.literals);
      };
    }

text_from : (bytes : List ℕ) (f : Cnf) (lines : List Line) → map (λ (l : Line). l.tokens) lines ≡ token_lines bytes
    → InBodyOf lines (AreClauses f) → IsFormulaText bytes f
text_from bytes f [] are h = absurd h
text_from bytes f (header ∷ lines) are h =
    let body = h.later in
    let literals : AllByRecursion (AllByRecursion (IsLiteral f.vars)) body.written =
    rw body.vars_are
    (All-map (IsWritten h.vars) (AllByRecursion (IsLiteral h.vars)) (λ c is. is.within) body.written body.read.closed_within) in
    let few : f.vars ≤ max_variable = omega (arith, body.vars_are, h.few_variables) in
    let first = header_tokens header.tokens h.vars h.count (omega (arith, h.few_variables)) (omega (arith, h.few_clauses)) h.spelled in
    let numbers = body.read.numbers ∙ ap (map (λ (z : ℤ). Some z)) (append-nil (flat_map ended body.written)) in
    record {
      lines = map (λ (l : Line). l.tokens) lines;
      header = sym are ∙ ap (λ (x : List (List ℕ)). x ∷ map (λ (l : Line). l.tokens) lines) (rw (body.vars_are, body.count_is) first);
      written = body.written;
      tokens = sym (all_texts lines)
          ∙ texts_from_numbers (all_tokens lines) (flat_map ended body.written) (all_fit f.vars body.written few literals) numbers;
      literals = literals;
      sizes = All-map (IsWritten h.vars) (λ (c : List ℤ). length c ≤ max_clause_literals)
          (λ c is. is.size) body.written body.read.closed_within;
      few_variables = few;
      few_clauses = omega (arith, body.count_is, h.few_clauses);
      clauses = distinct_sets body.written f.clauses body.sets;
    }

pub body_of_text : (bytes : List ℕ) (f : Cnf) → IsFormulaText bytes f → InBody bytes (AreClauses f)
body_of_text bytes f h = body_from bytes f (lines_of bytes) (token_lines_are bytes) h

pub text_of_body : (bytes : List ℕ) (f : Cnf) → InBody bytes (AreClauses f) → IsFormulaText bytes f
text_of_body bytes f h = text_from bytes f (lines_of bytes) (token_lines_are bytes) h
