-- The text that is printed for a formula is a text of that formula.
use Rattle.std.proofs.Common.{◌≡◌, ◌≤◌, ◌<◌, ◌+◌, ◌/◌, ◌%◌, ◌^◌, ◌++◌, ℕ, zero, suc, ℤ, pos, negsuc, nat_abs, List, [], ◌∷◌, length, map}
use Rattle.std.proofs.Common.{true, false, not, refl, sym, ap, ◌∙◌, inl, inr, arith}
use Rattle.std.specs.Prelude.{codes, flat_map, ◌==◌, filter}
use Rattle.std.specs.Fmt.{decimal, digit_glyph, digits, digits_onto, signed_decimal}
use Rattle.std.specs.List.{AllByRecursion, slice_split}
use Rattle.std.specs.Ordering.{int_eq}
use Rattle.std.proofs.lemmas.Bool.{cases_Bool, cond_both, cond-true, eqb-true, false_from_ne_true, lt-ltb, ne_eqb}
use Rattle.std.proofs.lemmas.Bool.Decides.{Decides-int_eq}
use Rattle.std.proofs.lemmas.Fmt.{decimal_digit, decimal_nonempty}
use Rattle.std.proofs.lemmas.List.{append_assoc, length-map, map-append}
use Rattle.std.proofs.lemmas.List.Elements.{All-from_recursion}
use Rattle.std.proofs.lemmas.List.Splits.{slice_split_at, slice_split_none}
use Rattle.lrup_model.specs.Clause.{Clause, Has, EachOnce}
use Rattle.lrup_model.specs.Distinct.{distinct}
use Rattle.lrup_model.specs.Formula.{IsFormulaClause, max_clause_literals}
use Rattle.lrup_model.specs.lemmas.ListLemmas.{All-append, All-map}
use Rattle.lrup_model.specs.Literal.{IsLiteral, max_variable}
use Rattle.dimacs.specs.Lines.{is_comment, is_empty, is_separator, runs, token_lines}
use Rattle.checkpoint.specs.Live.{Entry, clauses_of}
use Rattle.checkpoint.specs.Printing.{clause_line, entries_text, entry_text, formula_text, header_line, note, PrintedIsRead}
use Rattle.checkpoint.proofs.PrintLemmas.{note_none}

-- ## bytes

-- the byte isn't a separator, LF or the letter c
pub record IsPlain (b : ℕ) : Type 0 where
  pub separator : is_separator b ≡ false
  pub end : (b == 10) ≡ false
  pub comment : (b == 99) ≡ false

plain_digit : (b : ℕ) → 48 ≤ b → b ≤ 57 → IsPlain b
plain_digit b low high =
    let e : (b == 10) ≡ false = ne_eqb b 10 (omega arith) in
    record {
      separator = rw (ne_eqb b 32 (omega arith), ne_eqb b 9 (omega arith), ne_eqb b 13 (omega arith), e) refl;
      end = e;
      comment = ne_eqb b 99 (omega arith);
    }

-- a token: some bytes, all of them plain
pub record IsToken (t : List ℕ) : Type 0 where
  pub some : 0 < length t
  pub plain : AllByRecursion IsPlain t

plain_glyph : (n : ℕ) → IsPlain (digit_glyph false (n % 10))
plain_glyph n =
    let small : n % 10 < 10 = omega arith in
    rw (lt-ltb (n % 10) 10 small) (plain_digit (48 + n % 10) (omega arith) (omega arith))

plain_onto : (k n : ℕ) (ds : List ℕ) → AllByRecursion IsPlain ds → AllByRecursion IsPlain (digits_onto k 10 false n ds)
plain_onto zero n ds all = all
plain_onto (suc k) n ds all =
    cond_both (n / 10 == 0) (digit_glyph false (n % 10) ∷ ds) (digits_onto k 10 false (n / 10) (digit_glyph false (n % 10) ∷ ds))
    (AllByRecursion IsPlain)
    (λ _. (plain_glyph n, all)) (λ _. plain_onto k (n / 10) (digit_glyph false (n % 10) ∷ ds) (plain_glyph n, all))

pub plain_decimal : (n : ℕ) → AllByRecursion IsPlain (decimal n)
unfolding digits
plain_decimal n = plain_onto 64 n [] tt

pub token_decimal : (n : ℕ) → n < 2 ^ 64 → IsToken (decimal n)
token_decimal n fits = record { some = decimal_nonempty n fits; plain = plain_decimal n }

token_signed : (z : ℤ) → nat_abs z < 2 ^ 64 → IsToken (signed_decimal z)
token_signed (pos n) fits = token_decimal n fits
token_signed (negsuc n) fits = record {
  some = omega arith;
  plain = (record { separator = refl; end = refl; comment = refl }, plain_decimal (suc n));
}

-- ## a line's tokens

-- some bytes, none of them a separator
pub record IsRun (t : List ℕ) : Type 0 where
  pub some : 0 < length t
  pub separators : AllByRecursion (λ b. is_separator b ≡ false) t

pub token_run : (t : List ℕ) → IsToken t → IsRun t
token_run t token = record {
  some = token.some;
  separators = All-map IsPlain (λ b. is_separator b ≡ false) (λ b plain. plain.separator) t token.plain;
}

pub runs_last : (t : List ℕ) → IsRun t → runs t ≡ t ∷ []
runs_last [] run = absurd (omega (arith, run.some))
runs_last (b ∷ bs) run =
    ap (filter (λ (run : List ℕ). not (is_empty run)))
    (slice_split_none is_separator (b ∷ bs) (All-from_recursion (λ x. is_separator x ≡ false) (b ∷ bs) run.separators))

pub runs_more : (t rest : List ℕ) → IsRun t → runs (t ++ 32 ∷ rest) ≡ t ∷ runs rest
runs_more [] rest run = absurd (omega (arith, run.some))
runs_more (b ∷ bs) rest run =
    ap (filter (λ (run : List ℕ). not (is_empty run)))
    (slice_split_at is_separator (b ∷ bs) 32 rest (All-from_recursion (λ x. is_separator x ≡ false) (b ∷ bs) run.separators) refl)

-- ## lines

-- a line that contains no LF and isn't a comment
pub record IsPlainLine (line : List ℕ) : Type 0 where
  pub end : AllByRecursion (λ b. (b == 10) ≡ false) line
  pub comment : is_comment line ≡ false

tokens_first : (line : List ℕ) (lines : List (List ℕ)) (t : List ℕ) (ts : List (List ℕ)) → is_comment line ≡ false → runs line ≡ t ∷ ts
    → filter (λ (tokens : List (List ℕ)). not (is_empty tokens)) (map runs (filter (λ (l : List ℕ). not (is_comment l)) (line ∷ lines)))
    ≡ (t ∷ ts) ∷ filter (λ (tokens : List (List ℕ)). not (is_empty tokens)) (map runs (filter (λ (l : List ℕ). not (is_comment l)) lines))
tokens_first line lines t ts comment tokens = rw (comment, tokens) refl

line_first : (line rest : List ℕ) (t : List ℕ) (ts : List (List ℕ)) → IsPlainLine line → runs line ≡ t ∷ ts
    → token_lines (line ++ 10 ∷ rest) ≡ (t ∷ ts) ∷ token_lines rest
line_first line rest t ts plain tokens =
    ap (λ (lines : List (List ℕ)). filter (λ (tokens : List (List ℕ)). not (is_empty tokens))
    (map runs (filter (λ (l : List ℕ). not (is_comment l)) lines)))
    (slice_split_at (λ b. b == 10) line 10 rest (All-from_recursion (λ b. (b == 10) ≡ false) line plain.end) refl)
    ∙ tokens_first line (slice_split (λ b. b == 10) rest) t ts plain.comment tokens

-- a comment is skipped
comment_first : (line rest : List ℕ) → AllByRecursion (λ b. (b == 10) ≡ false) line → is_comment line ≡ true
    → token_lines (line ++ 10 ∷ rest) ≡ token_lines rest
comment_first line rest end comment =
    ap (λ (lines : List (List ℕ)). filter (λ (tokens : List (List ℕ)). not (is_empty tokens))
    (map runs (filter (λ (l : List ℕ). not (is_comment l)) lines)))
    (slice_split_at (λ b. b == 10) line 10 rest (All-from_recursion (λ b. (b == 10) ≡ false) line end) refl)
    ∙ passed (slice_split (λ b. b == 10) rest)
  where
    passed : (lines : List (List ℕ))
        → filter (λ (tokens : List (List ℕ)). not (is_empty tokens)) (map runs (filter (λ (l : List ℕ). not (is_comment l)) (line ∷ lines)))
        ≡ filter (λ (tokens : List (List ℕ)). not (is_empty tokens)) (map runs (filter (λ (l : List ℕ). not (is_comment l)) lines))
    passed lines = rw comment refl

-- no byte of a token ends a line, and none begins a comment
pub token_ends : (t : List ℕ) → IsToken t → AllByRecursion (λ b. (b == 10) ≡ false) t
token_ends t token = All-map IsPlain (λ b. (b == 10) ≡ false) (λ b plain. plain.end) t token.plain

token_begins : (t rest : List ℕ) → IsToken t → is_comment (t ++ rest) ≡ false
token_begins [] rest token = absurd (omega (arith, token.some))
token_begins (b ∷ bs) rest token = token.plain.0.comment

-- ## the header

module _ (vars count : ℕ) (few_vars : vars < 2 ^ 64) (few : count < 2 ^ 64) where
  unfoldable pub header_front : List ℕ
  header_front = codes "p cnf " ++ (decimal vars ++ 32 ∷ decimal count)

  pub header_is : (rest : List ℕ) → header_line vars count ++ rest ≡ header_front ++ 10 ∷ rest
  unfolding header_front
  header_is rest = simp append_assoc

  header_runs : runs header_front ≡ codes "p" ∷ codes "cnf" ∷ decimal vars ∷ decimal count ∷ []
  unfolding header_front
  header_runs =
      ap (λ (ts : List (List ℕ)). codes "p" ∷ codes "cnf" ∷ ts)
      (runs_more (decimal vars) (decimal count) (token_run (decimal vars) (token_decimal vars few_vars))
      ∙ ap (λ (ts : List (List ℕ)). decimal vars ∷ ts) (runs_last (decimal count) (token_run (decimal count) (token_decimal count few))))

  pub header_plain : IsPlainLine header_front
  unfolding header_front
  header_plain = record {
    end = All-append (λ b. (b == 10) ≡ false) (codes "p cnf ") (decimal vars ++ 32 ∷ decimal count)
        (refl, (refl, (refl, (refl, (refl, (refl, tt))))))
        (All-append (λ b. (b == 10) ≡ false) (decimal vars) (32 ∷ decimal count) (token_ends (decimal vars) (token_decimal vars few_vars))
        (refl, token_ends (decimal count) (token_decimal count few)));
    comment = refl;
  }

  pub header_read : (rest : List ℕ)
      → token_lines (header_line vars count ++ rest) ≡ (codes "p" ∷ codes "cnf" ∷ decimal vars ∷ decimal count ∷ []) ∷ token_lines rest
  header_read rest = ap token_lines (header_is rest)
      ∙ line_first header_front rest (codes "p") (codes "cnf" ∷ decimal vars ∷ decimal count ∷ []) header_plain header_runs

-- ## a note

-- a note without its LF
unfoldable pub note_front : ℕ → List ℕ
note_front id = codes "c id " ++ decimal id

pub note_ends : (id : ℕ) → AllByRecursion (λ b. (b == 10) ≡ false) (note_front id)
unfolding note_front
note_ends id =
    All-append (λ b. (b == 10) ≡ false) (codes "c id ") (decimal id) (refl, (refl, (refl, (refl, (refl, tt)))))
    (All-map IsPlain (λ b. (b == 10) ≡ false) (λ b plain. plain.end) (decimal id) (plain_decimal id))

note_begins : (id : ℕ) → is_comment (note_front id) ≡ true
unfolding note_front
note_begins id = refl

pub note_is : (id place : ℕ) → (id == place) ≡ false → note id place ≡ note_front id ++ 10 ∷ []
unfolding note note_front
note_is id place other = rw other refl

pub note_read : (id place : ℕ) (rest : List ℕ) → token_lines (note id place ++ rest) ≡ token_lines rest
note_read id place rest =
    elim (cases_Bool (id == place)) [
      | inl same ↦ ap (λ t. token_lines (t ++ rest)) (note_none id place (eqb-true id place same))
      | inr other ↦
          ap (λ t. token_lines (t ++ rest)) (note_is id place other)
          ∙ ap token_lines (append_assoc (note_front id) (10 ∷ []) rest)
          ∙ comment_first (note_front id) rest (note_ends id) (note_begins id)
    ]

-- ## a clause

-- a clause's line, without the LF
unfoldable pub clause_front : Clause → List ℕ
clause_front c = flat_map (λ l. signed_decimal l ++ codes " ") c ++ codes "0"

pub clause_is : (c : Clause) (rest : List ℕ) → clause_line c ++ rest ≡ clause_front c ++ 10 ∷ rest
unfolding clause_front clause_line
clause_is c rest =
    append_assoc (flat_map (λ l. signed_decimal l ++ codes " ") c) (codes "0\n") rest
    ∙ sym (append_assoc (flat_map (λ l. signed_decimal l ++ codes " ") c) (codes "0") (10 ∷ rest))

pub clause_front-cons : (l : ℤ) (c : Clause) → clause_front (l ∷ c) ≡ signed_decimal l ++ 32 ∷ clause_front c
unfolding clause_front
clause_front-cons l c =
    append_assoc (signed_decimal l ++ codes " ") (flat_map (λ l. signed_decimal l ++ codes " ") c) (codes "0")
    ∙ append_assoc (signed_decimal l) (codes " ") (flat_map (λ l. signed_decimal l ++ codes " ") c ++ codes "0")

module _ (vars : ℕ) (few : vars ≤ max_variable) where
  pub token_literal : (l : ℤ) → IsLiteral vars l → IsToken (signed_decimal l)
  token_literal l is = token_signed l (omega (arith, is.1, few))

  clause_runs : (c : Clause) → AllByRecursion (IsLiteral vars) c → runs (clause_front c) ≡ map signed_decimal (c ++ pos 0 ∷ [])
  unfolding clause_front
  clause_runs [] all = ap (λ t. t ∷ []) (sym (decimal_digit 0 (omega arith)))
  clause_runs (l ∷ c) all =
      ap runs (clause_front-cons l c) ∙ runs_more (signed_decimal l) (clause_front c) (token_run (signed_decimal l) (token_literal l all.0))
      ∙ ap (λ (ts : List (List ℕ)). signed_decimal l ∷ ts) (clause_runs c all.1)

  pub clause_ends : (c : Clause) → AllByRecursion (IsLiteral vars) c → AllByRecursion (λ b. (b == 10) ≡ false) (clause_front c)
  unfolding clause_front
  clause_ends [] all = (refl, tt)
  clause_ends (l ∷ c) all =
      rw (clause_front-cons l c)
      (All-append (λ b. (b == 10) ≡ false) (signed_decimal l) (32 ∷ clause_front c) (token_ends (signed_decimal l) (token_literal l all.0))
      (refl, clause_ends c all.1))

  clause_begins : (c : Clause) → AllByRecursion (IsLiteral vars) c → is_comment (clause_front c) ≡ false
  unfolding clause_front
  clause_begins [] all = refl
  clause_begins (l ∷ c) all = rw (clause_front-cons l c) (token_begins (signed_decimal l) (32 ∷ clause_front c) (token_literal l all.0))

  clause_read : (c : Clause) (rest : List ℕ) → AllByRecursion (IsLiteral vars) c
      → token_lines (clause_line c ++ rest) ≡ map signed_decimal (c ++ pos 0 ∷ []) ∷ token_lines rest
  clause_read [] rest all =
      ap token_lines (clause_is [] rest)
      ∙ line_first (clause_front []) rest (signed_decimal (pos 0)) [] (record { end = clause_ends [] all; comment = clause_begins [] all })
      (clause_runs [] all)
  clause_read (l ∷ c) rest all =
      ap token_lines (clause_is (l ∷ c) rest)
      ∙ line_first (clause_front (l ∷ c)) rest (signed_decimal l) (map signed_decimal (c ++ pos 0 ∷ []))
      (record { end = clause_ends (l ∷ c) all; comment = clause_begins (l ∷ c) all }) (clause_runs (l ∷ c) all)

  pub entry_read : (place : ℕ) (e : Entry) (rest : List ℕ) → AllByRecursion (IsLiteral vars) e.clause
      → token_lines (entry_text place e ++ rest) ≡ map signed_decimal (e.clause ++ pos 0 ∷ []) ∷ token_lines rest
  entry_read place e rest all =
      ap token_lines (append_assoc (note e.id place) (clause_line e.clause) rest) ∙ note_read e.id place (clause_line e.clause ++ rest)
      ∙ clause_read e.clause rest all

  pub entries_read : (place : ℕ) (es : List Entry) → AllByRecursion (AllByRecursion (IsLiteral vars)) (clauses_of es)
      → token_lines (entries_text place es) ≡ map (λ c. map signed_decimal (c ++ pos 0 ∷ [])) (clauses_of es)
  entries_read place [] all = refl
  entries_read place (e ∷ es) all =
      entry_read place e (entries_text (place + 1) es) all.0
      ∙ ap (λ (ls : List (List (List ℕ))). map signed_decimal (e.clause ++ pos 0 ∷ []) ∷ ls) (entries_read (place + 1) es all.1)

-- the tokens of the lines
all_tokens : (cs : List Clause) → flat_map (λ (line : List (List ℕ)). line) (map (λ c. map signed_decimal (c ++ pos 0 ∷ [])) cs)
    ≡ map signed_decimal (flat_map (λ c. c ++ pos 0 ∷ []) cs)
all_tokens [] = refl
all_tokens (c ∷ cs) =
    ap (λ (ts : List (List ℕ)). map signed_decimal (c ++ pos 0 ∷ []) ++ ts) (all_tokens cs)
    ∙ sym (map-append signed_decimal (c ++ pos 0 ∷ []) (flat_map (λ c. c ++ pos 0 ∷ []) cs))

-- ## literals that occur once

without_none : (x : ℤ) (ls : List ℤ) → (¬ Has ls x) → filter (λ y. not (int_eq y x)) ls ≡ ls
without_none x [] missing = refl
without_none x (y ∷ ls) missing =
    cond-true (not (int_eq y x)) (y ∷ filter (λ z. not (int_eq z x)) ls) (filter (λ z. not (int_eq z x)) ls)
    (ap not (false_from_ne_true (int_eq y x) (λ t. missing (inl ((Decides-int_eq y x).0 t)))))
    ∙ ap (λ m. y ∷ m) (without_none x ls (λ h. missing (inr h)))

distinct_once : (c : Clause) → EachOnce c → c ≡ distinct c
distinct_once [] once = refl
distinct_once (x ∷ c) once =
    let rest = distinct_once c once.1 in
    ap (λ d. x ∷ d) (sym (without_none x c once.0) ∙ ap (filter (λ y. not (int_eq y x))) rest)

distinct_all : (vars : ℕ) (cs : List Clause) → AllByRecursion (IsFormulaClause vars) cs → cs ≡ map distinct cs
distinct_all vars [] all = refl
distinct_all vars (c ∷ cs) all = ap (λ d. d ∷ cs) (distinct_once c all.0.0.each_once)
    ∙ ap (λ ds. distinct c ∷ ds) (distinct_all vars cs all.1)

pub printed_is_read : PrintedIsRead
unfolding formula_text
printed_is_read vars entries is =
    let clauses : List Clause = clauses_of entries in
    let count : length clauses ≡ length entries = length-map entries (λ e. e.clause) in
    let literals = All-map (IsFormulaClause vars) (AllByRecursion (IsLiteral vars)) (λ c clause. clause.0.literals) clauses is.clauses in
    record {
      lines = map (λ c. map signed_decimal (c ++ pos 0 ∷ [])) clauses;
      header = header_read vars (length entries) (omega (arith, is.vars)) (omega (arith, is.count)) (entries_text 1 entries)
          ∙ ap (λ (ls : List (List (List ℕ))). (codes "p" ∷ codes "cnf" ∷ decimal vars ∷ decimal (length entries) ∷ []) ∷ ls)
          (entries_read vars is.vars 1 entries literals)
          ∙ ap (λ n. (codes "p" ∷ codes "cnf" ∷ decimal vars ∷ decimal n ∷ []) ∷ map (λ c. map signed_decimal (c ++ pos 0 ∷ [])) clauses)
          (sym count);
      written = clauses;
      tokens = all_tokens clauses;
      literals = literals;
      sizes = All-map (IsFormulaClause vars) (λ c. length c ≤ max_clause_literals) (λ c clause. clause.1) clauses is.clauses;
      few_variables = is.vars;
      few_clauses = is.count;
      clauses = distinct_all vars clauses is.clauses;
    }
