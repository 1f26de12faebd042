-- A text of a formula has a `0` token for each clause. If more than the last byte of a printed text
-- is missing, the rest has fewer `0` tokens than its header requires.
use Rattle.std.proofs.Common.{◌≡◌, ◌≢◌, ◌≤◌, ◌<◌, ◌+◌, ◌-◌, ◌^◌, ◌++◌, ◌⊎◌, ℕ, zero, suc, ℤ, pos, negsuc, List, [], ◌∷◌, length}
use Rattle.std.proofs.Common.{length-append, map, min, get_or, true, false, not, cond, refl, sym, ap, subst, ◌∙◌, inl, inr, arith}
use Rattle.std.specs.Prelude.{codes, flat_map, ◌==◌, filter}
use Rattle.std.specs.Fmt.{decimal, signed_decimal}
use Rattle.std.specs.List.{AllByRecursion}
use Rattle.std.proofs.lemmas.Bool.{cases_Bool, eqb-true, ne_eqb}
use Rattle.std.proofs.lemmas.Fmt.{decimal_digit, decimal_injective, first_decimal}
use Rattle.std.proofs.lemmas.List.{append_assoc, append-nil, length-map}
use Rattle.std.proofs.lemmas.List.Elements.{All-from_recursion}
use Rattle.std.proofs.lemmas.List.Splits.{slice_split_none}
use Rattle.lrup_model.specs.Clause.{Clause}
use Rattle.lrup_model.specs.Distinct.{distinct}
use Rattle.lrup_model.specs.Formula.{IsFormulaClause}
use Rattle.lrup_model.specs.lemmas.ListLemmas.{All-front, All-map}
use Rattle.lrup_model.specs.Literal.{IsLiteral, max_variable}
use Rattle.dimacs.specs.Lines.{is_comment, is_empty, is_separator, runs, token_lines}
use Rattle.dimacs.specs.Numerals.{is_zero}
use Rattle.checkpoint.specs.Live.{Entry, clauses_of}
use Rattle.checkpoint.specs.Printing.{ABeginningIsNoText, clause_line, entries_text, entry_text, formula_text, header_line, note}
use Rattle.checkpoint.proofs.PrintLemmas.{note_none}
use Rattle.checkpoint.proofs.ReadBack.{IsRun, clause_ends, clause_front, clause_front-cons, clause_is, entry_read, header_front, header_is}
use Rattle.checkpoint.proofs.ReadBack.{header_plain, header_read, note_ends, note_front, note_is, note_read, runs_last, runs_more}
use Rattle.checkpoint.proofs.ReadBack.{token_decimal, token_literal, token_run}

-- ## a list that is cut in two

-- the cut is after the first list
record IsAfter (xs ys front back : List ℕ) : Type 0 where
  between : List ℕ
  front_is : front ≡ xs ++ between
  back_is : ys ≡ between ++ back

-- the cut is within the first list
record IsWithin (xs ys front back : List ℕ) : Type 0 where
  between : List ℕ
  some : 0 < length between
  front_is : xs ≡ front ++ between
  back_is : back ≡ between ++ ys

cut : (xs ys front back : List ℕ) → xs ++ ys ≡ front ++ back → IsAfter xs ys front back ⊎ IsWithin xs ys front back
cut [] ys front back is = inl (record { between = front; front_is = refl; back_is = is })
cut (x ∷ xs) ys [] back is = inr (record { between = x ∷ xs; some = omega arith; front_is = refl; back_is = sym is })
cut (x ∷ xs) ys (f ∷ front) back is =
    let first : x ≡ f = cc in
    let rest : xs ++ ys ≡ front ++ back = cc in
    elim (cut xs ys front back rest) [
      | inl following ↦ inl (record { between = following.between; front_is = cc (following.front_is, first); back_is = following.back_is })
      | inr within ↦
          inr (record { between = within.between; some = within.some; front_is = cc (within.front_is, first); back_is = within.back_is })
    ]

-- if the back of a list isn't empty, the last element isn't in the front
before_last : (xs : List ℕ) (x : ℕ) (front back : List ℕ) → xs ++ x ∷ [] ≡ front ++ back → 0 < length back
    → (rest : List ℕ) × (xs ≡ front ++ rest) × (length back ≡ length rest + 1)
before_last xs x front back is some =
    elim (cut xs (x ∷ []) front back is) [
      | inl following ↦ at_end following.between following.front_is following.back_is
      | inr within ↦ (within.between, within.front_is, ap length within.back_is ∙ length-append within.between (x ∷ []))
    ]
  where
    at_end : (between : List ℕ) → front ≡ xs ++ between → x ∷ [] ≡ between ++ back
        → (rest : List ℕ) × (xs ≡ front ++ rest) × (length back ≡ length rest + 1)
    at_end [] front_is back_is = ([], sym (append-nil front ∙ front_is ∙ append-nil xs), sym (ap length back_is))
    at_end (b ∷ bs) front_is back_is = absurd (omega (arith, some, length-append (b ∷ bs) back, ap length back_is))

-- ## tokens that are `0`

zeros : List (List ℕ) → ℕ
zeros [] = 0
zeros (t ∷ ts) = cond (is_zero t) (1 + zeros ts) (zeros ts)

zeros-append : (xs ys : List (List ℕ)) → zeros (xs ++ ys) ≡ zeros xs + zeros ys
unfolding zeros
zeros-append [] ys = omega arith
zeros-append (t ∷ ts) ys = elim (cases_Bool (is_zero t)) [
  | inl zero_is ↦ let rest = zeros-append ts ys in rw zero_is (omega (arith, rest))
  | inr other ↦ let rest = zeros-append ts ys in rw other (omega (arith, rest))
]

-- a token that begins with a byte other than 0 isn't `0`
not_zero : (t : List ℕ) → get_or t 0 0 ≢ 48 → is_zero t ≡ false
not_zero [] first = refl
not_zero (b ∷ []) first = ne_eqb b 48 first
not_zero (b ∷ c ∷ bs) first = refl

zeros_one : (t : List ℕ) → get_or t 0 0 ≢ 48 → zeros (t ∷ []) ≡ 0
unfolding zeros
zeros_one t first = rw (not_zero t first) refl

zeros_skip : (t : List ℕ) (ts : List (List ℕ)) → get_or t 0 0 ≢ 48 → zeros (t ∷ ts) ≡ zeros ts
unfolding zeros
zeros_skip t ts first = rw (not_zero t first) refl

-- no literal begins with 0
first_byte : (vars : ℕ) (l : ℤ) → vars ≤ max_variable → IsLiteral vars l → get_or (signed_decimal l) 0 0 ≢ 48
first_byte vars (pos n) few is = let first = first_decimal n (omega (arith, is.0)) (omega (arith, is.1)) in λ e. omega arith
first_byte vars (negsuc n) few is = λ e. omega arith

-- the tokens of a clause contain one `0`
clause_zeros : (vars : ℕ) (few : vars ≤ max_variable) (c rest : List ℤ) → AllByRecursion (IsLiteral vars) c
    → zeros (map signed_decimal (c ++ pos 0 ∷ rest)) ≡ 1 + zeros (map signed_decimal rest)
unfolding zeros
clause_zeros vars few [] rest all = ap (λ t. zeros (t ∷ map signed_decimal rest)) (decimal_digit 0 (omega arith))
clause_zeros vars few (l ∷ c) rest all =
    zeros_skip (signed_decimal l) (map signed_decimal (c ++ pos 0 ∷ rest)) (first_byte vars l few all.0)
    ∙ clause_zeros vars few c rest all.1

written_zeros : (vars : ℕ) (few : vars ≤ max_variable) (cs : List (List ℤ)) → AllByRecursion (AllByRecursion (IsLiteral vars)) cs
    → zeros (map signed_decimal (flat_map (λ clause. clause ++ pos 0 ∷ []) cs)) ≡ length cs
unfolding zeros
written_zeros vars few [] all = refl
written_zeros vars few (c ∷ cs) all =
    let rest = written_zeros vars few cs all.1 in
    let this = clause_zeros vars few c (flat_map (λ clause. clause ++ pos 0 ∷ []) cs) all.0 in
    let whole =
    ap (λ (zs : List ℤ). zeros (map signed_decimal zs)) (append_assoc c (pos 0 ∷ []) (flat_map (λ clause. clause ++ pos 0 ∷ []) cs)) in
    omega (arith, whole, this, rest)

-- ## one line

NoEnd : List ℕ → Type 0
NoEnd line = AllByRecursion (λ b. (b == 10) ≡ false) line

lines_alone : (line : List ℕ) → AllByRecursion (λ b. (b == 10) ≡ false) line
    → token_lines line
    ≡ filter (λ (tokens : List (List ℕ)). not (is_empty tokens)) (map runs (filter (λ (l : List ℕ). not (is_comment l)) (line ∷ [])))
lines_alone line end =
    ap (λ (lines : List (List ℕ)). filter (λ (tokens : List (List ℕ)). not (is_empty tokens))
    (map runs (filter (λ (l : List ℕ). not (is_comment l)) lines)))
    (slice_split_none (λ b. b == 10) line (All-from_recursion (λ b. (b == 10) ≡ false) line end))

-- a comment has no tokens
comment_alone : (line : List ℕ) → AllByRecursion (λ b. (b == 10) ≡ false) line → is_comment line ≡ true → token_lines line ≡ []
comment_alone line end comment = lines_alone line end ∙ tokens line comment
  where
    tokens : (l : List ℕ) → is_comment l ≡ true
        → filter (λ (tokens : List (List ℕ)). not (is_empty tokens)) (map runs (filter (λ (l : List ℕ). not (is_comment l)) (l ∷ []))) ≡ []
    tokens l is = rw is refl

one_line : (line : List ℕ) → AllByRecursion (λ b. (b == 10) ≡ false) line → (token_lines line ≡ []) ⊎ (token_lines line ≡ runs line ∷ [])
one_line line end = elim (cases_Bool (is_comment line)) [
  | inl comment ↦ inl (comment_alone line end comment)
  | inr other ↦ elim (cases_Bool (is_empty (runs line))) [
    | inl none ↦ inl (lines_alone line end ∙ rw (other, none) refl)
    | inr some ↦ inr (lines_alone line end ∙ rw (other, some) refl)
  ]
]

-- the number of `0` tokens in all lines
line_zeros : List ℕ → ℕ
line_zeros bytes = zeros (flat_map (λ (line : List (List ℕ)). line) (token_lines bytes))

one_line_zeros : (line : List ℕ) → AllByRecursion (λ b. (b == 10) ≡ false) line → line_zeros line ≤ zeros (runs line)
unfolding line_zeros zeros
one_line_zeros line end = elim (one_line line end) [
  | inl none ↦ rw none (omega arith)
  | inr some ↦
      let same = ap (λ (ls : List (List (List ℕ))). zeros (flat_map (λ (line : List (List ℕ)). line) ls)) some
      ∙ ap zeros (append-nil (runs line)) in omega (arith, same)
]

-- ## a line that is cut

-- the cut is in the first token, or after the space that follows it
token_cut : (t more front back : List ℕ) → t ++ 32 ∷ more ≡ front ++ back
    → ((between : List ℕ) × (t ≡ front ++ between)) ⊎ ((later : List ℕ) × (front ≡ t ++ 32 ∷ later) × (more ≡ later ++ back))
token_cut t more front back is = elim (cut t (32 ∷ more) front back is) [
  | inl following ↦ after following.between following.front_is following.back_is
  | inr within ↦ inl (within.between, within.front_is)
]
  where
    after : (between : List ℕ) → front ≡ t ++ between → 32 ∷ more ≡ between ++ back
        → ((between : List ℕ) × (t ≡ front ++ between)) ⊎ ((later : List ℕ) × (front ≡ t ++ 32 ∷ later) × (more ≡ later ++ back))
    after [] front_is back_is = inl ([], sym (append-nil front ∙ front_is ∙ append-nil t))
    after (b ∷ bs) front_is back_is =
        let space : 32 ≡ b = cc in
        inr (bs, front_is ∙ ap (λ x. t ++ x ∷ bs) (sym space), cc)

-- a prefix of a token is empty, or one token
part_runs : (t front between : List ℕ) → IsRun t → t ≡ front ++ between → (runs front ≡ []) ⊎ (runs front ≡ front ∷ [])
part_runs t [] between run is = inl refl
part_runs t (b ∷ bs) between run is =
    inr (runs_last (b ∷ bs) (record {
      some = omega arith;
      separators =
          All-front (λ x. is_separator x ≡ false) (b ∷ bs) between (subst (AllByRecursion (λ x. is_separator x ≡ false)) is run.separators);
    }))

part_zeros : (t front between : List ℕ) → IsRun t → get_or t 0 0 ≢ 48 → t ≡ front ++ between → zeros (runs front) ≡ 0
unfolding zeros
part_zeros t [] between run first is = refl
part_zeros t (b ∷ bs) between run first is =
    let same : get_or t 0 0 ≡ b = ap (λ (u : List ℕ). get_or u 0 0) is in
    elim (part_runs t (b ∷ bs) between run is) [
      | inl none ↦ ap zeros none
      | inr one ↦ ap zeros one ∙ zeros_one (b ∷ bs) (λ e. first (same ∙ e))
    ]

note_first : (id b : ℕ) (bs rest : List ℕ) → note_front id ≡ b ∷ bs ++ rest → is_comment (b ∷ bs) ≡ true
unfolding note_front
note_first id b bs rest is = let same : 99 ≡ b = cc in subst (λ x. (x == 99) ≡ true) same refl

module _ (vars : ℕ) (few : vars ≤ max_variable) where
  front_part : (c : Clause) (front back : List ℕ) → AllByRecursion (IsLiteral vars) c → clause_front c ≡ front ++ back
      → zeros (runs front) + min 1 (length back) ≤ 1
  unfolding clause_front zeros
  front_part [] front back all is = digit front is
    where
      digit : (w : List ℕ) → 48 ∷ [] ≡ w ++ back → zeros (runs w) + min 1 (length back) ≤ 1
      digit [] e = omega arith
      digit (b ∷ []) e = let zero_is : 48 ≡ b = cc in let none = ap length e in
          subst (λ x. zeros (runs (x ∷ [])) + min 1 (length back) ≤ 1) zero_is (omega (arith, none))
      digit (b ∷ d ∷ bs) e = absurd (omega (arith, length-append (b ∷ d ∷ bs) back, ap length e))
  front_part (l ∷ c) front back all is =
      let run = token_run (signed_decimal l) (token_literal vars few l all.0) in
      let first = first_byte vars l few all.0 in
      elim (token_cut (signed_decimal l) (clause_front c) front back (sym (clause_front-cons l c) ∙ is)) [
        | inl (between, inside) ↦ let none = part_zeros (signed_decimal l) front between run first inside in omega (arith, none)
        | inr (later, front_is, back_is) ↦
            let rest = front_part c later back all.1 back_is in
            let same = ap (λ (t : List ℕ). zeros (runs t)) front_is ∙ ap zeros (runs_more (signed_decimal l) later run)
            ∙ zeros_skip (signed_decimal l) (runs later) first in
            omega (arith, rest, same)
      ]

  line_part : (c : Clause) (front back : List ℕ) → AllByRecursion (IsLiteral vars) c → clause_line c ≡ front ++ back → 0 < length back
      → line_zeros front + min 1 (length back - 1) ≤ 1
  line_part c front back all is some =
      let line : clause_line c ≡ clause_front c ++ 10 ∷ [] = sym (append-nil (clause_line c)) ∙ clause_is c [] in
      let last = before_last (clause_front c) 10 front back (sym line ∙ is) some in
      let end = All-front (λ b. (b == 10) ≡ false) front last.0
      (subst (AllByRecursion (λ b. (b == 10) ≡ false)) last.1 (clause_ends vars few c all)) in
      omega (arith, one_line_zeros front end, front_part c front last.0 all last.1, last.2)

  -- a note that is cut has no token
  note_part : (id place : ℕ) (front back : List ℕ) → note id place ≡ front ++ back → 0 < length back → line_zeros front ≡ 0
  unfolding line_zeros zeros
  note_part id place front back is some = elim (cases_Bool (id == place)) [
    | inl same ↦ absurd (omega (arith, some, length-append front back, ap length (sym (note_none id place (eqb-true id place same)) ∙ is)))
    | inr other ↦
        let last = before_last (note_front id) 10 front back (sym (note_is id place other) ∙ is) some in
        none front last.0 last.1
        (All-front (λ b. (b == 10) ≡ false) front last.0 (subst (AllByRecursion (λ b. (b == 10) ≡ false)) last.1 (note_ends id)))
  ]
    where
      none : (w rest : List ℕ) → note_front id ≡ w ++ rest → AllByRecursion (λ b. (b == 10) ≡ false) w → line_zeros w ≡ 0
      none [] rest e end = refl
      none (b ∷ bs) rest e end =
          ap (λ (ls : List (List (List ℕ))). zeros (flat_map (λ (line : List (List ℕ)). line) ls))
          (comment_alone (b ∷ bs) end (note_first id b bs rest e))

  entry_part : (place : ℕ) (e : Entry) (front back : List ℕ) → AllByRecursion (IsLiteral vars) e.clause → entry_text place e ≡ front ++ back
      → 0 < length back → line_zeros front + min 1 (length back - 1) ≤ 1
  unfolding line_zeros
  entry_part place e front back all is some = elim (cut (note e.id place) (clause_line e.clause) front back is) [
    | inl following ↦
        let tokens = ap token_lines following.front_is ∙ note_read e.id place following.between in
        let same = ap (λ (ls : List (List (List ℕ))). zeros (flat_map (λ (line : List (List ℕ)). line) ls)) tokens in
        omega (arith, same, line_part e.clause following.between back all following.back_is some)
    | inr within ↦ omega (arith, note_part e.id place front within.between within.front_is within.some)
  ]

  -- if more than the last byte of a text of n clauses is missing, the rest has fewer than n `0`
  -- tokens
  entries_part : (place : ℕ) (es : List Entry) (front back : List ℕ) → AllByRecursion (AllByRecursion (IsLiteral vars)) (clauses_of es)
      → entries_text place es ≡ front ++ back → 1 < length back → line_zeros front < length es
  unfolding line_zeros zeros
  entries_part place [] front back all is long = absurd (omega (arith, long, length-append front back, ap length is))
  entries_part place (e ∷ es) front back all is long = elim (cut (entry_text place e) (entries_text (place + 1) es) front back is) [
    | inl following ↦
        let tokens = ap token_lines following.front_is ∙ entry_read vars few place e following.between all.0 in
        let same = ap (λ (ls : List (List (List ℕ))). zeros (flat_map (λ (line : List (List ℕ)). line) ls)) tokens
        ∙ zeros-append (map signed_decimal (e.clause ++ pos 0 ∷ [])) (flat_map (λ (line : List (List ℕ)). line)
        (token_lines following.between)) in
        let one = clause_zeros vars few e.clause [] all.0 in
        let rest = entries_part (place + 1) es following.between back all.1 following.back_is long in
        omega (arith, same, one, rest)
    | inr within ↦
        let this = entry_part place e front within.between all.0 within.front_is within.some in
        last es (length within.between) (ap length within.back_is ∙ length-append within.between (entries_text (place + 1) es)) this
  ]
    where
      last : (later : List Entry) (n : ℕ) → length back ≡ n + length (entries_text (place + 1) later) → line_zeros front + min 1 (n - 1) ≤ 1
          → line_zeros front < length (e ∷ later)
      last [] n whole this = omega arith
      last (d ∷ ds) n whole this = omega arith

-- ## a header that is cut

run_p : IsRun (codes "p")
run_p = record { some = omega arith; separators = (refl, tt) }

run_cnf : IsRun (codes "cnf")
run_cnf = record { some = omega arith; separators = (refl, (refl, (refl, tt))) }

-- if a line that is cut still has more than one token, the cut is after the first token's space
goes_on : (t more front back one : List ℕ) (tokens : List (List ℕ)) → IsRun t → t ++ 32 ∷ more ≡ front ++ back → runs front ≡ one ∷ tokens
    → 0 < length tokens → (later : List ℕ) × (runs later ≡ tokens) × (more ≡ later ++ back)
goes_on t more front back one tokens run is found some = elim (token_cut t more front back is) [
  | inl (between, inside) ↦ elim (part_runs t front between run inside) [
    | inl none ↦ absurd (omega (arith, some, ap length (sym none ∙ found)))
    | inr single ↦ absurd (omega (arith, some, ap length (sym single ∙ found)))
  ]
  | inr (later, front_is, back_is) ↦
      let same : t ∷ runs later ≡ one ∷ tokens = sym (runs_more t later run) ∙ sym (ap runs front_is) ∙ found in
      (later, cc, back_is)
]

-- a count that begins with 0 is 0
zero_alone : (count : ℕ) (back : List ℕ) → count < 2 ^ 64 → decimal count ≡ 48 ∷ back → (count ≡ 0) × (back ≡ [])
zero_alone zero back fits is = (refl, cc (decimal_digit 0 (omega arith)))
zero_alone (suc n) back fits is = absurd (omega (arith, first_decimal (suc n) (omega arith) fits, ap (λ (t : List ℕ). get_or t 0 0) is))

module _ (vars count : ℕ) (few_vars : vars < 2 ^ 64) (few : count < 2 ^ 64) where
  -- if a header that is cut is still read as a header, no other line has tokens; and if the count
  -- that is read is 0, the whole header's count is 0 and only the LF is missing
  header_part : (front back : List ℕ) → header_line vars count ≡ front ++ back → 0 < length back
      → (v n : ℕ) (lines : List (List (List ℕ))) → token_lines front ≡ (codes "p" ∷ codes "cnf" ∷ decimal v ∷ decimal n ∷ []) ∷ lines
      → (lines ≡ []) × (n ≡ 0 → (count ≡ 0) × (length back ≡ 1))
  unfolding header_front
  header_part front back is some v n lines found =
      let line : header_line vars count ≡ header_front vars count few_vars few ++ 10 ∷ [] =
      sym (append-nil (header_line vars count)) ∙ header_is vars count few_vars few [] in
      let last = before_last (header_front vars count few_vars few) 10 front back (sym line ∙ is) some in
      let end = All-front (λ b. (b == 10) ≡ false) front last.0
      (subst (AllByRecursion (λ b. (b == 10) ≡ false)) last.1 (header_plain vars count few_vars few).end) in
      elim (one_line front end) [
        | inl none ↦ cc (none, found)
        | inr single ↦
            let same : runs front ∷ [] ≡ (codes "p" ∷ codes "cnf" ∷ decimal v ∷ decimal n ∷ []) ∷ lines = sym single ∙ found in
            let tokens : runs front ≡ codes "p" ∷ codes "cnf" ∷ decimal v ∷ decimal n ∷ [] = cc (same) in
            let one = goes_on (codes "p") (codes "cnf" ++ 32 ∷ (decimal vars ++ 32 ∷ decimal count)) front last.0 (codes "p")
            (codes "cnf" ∷ decimal v ∷ decimal n ∷ []) run_p last.1 tokens (omega arith) in
            let two = goes_on (codes "cnf") (decimal vars ++ 32 ∷ decimal count) one.0 last.0 (codes "cnf")
            (decimal v ∷ decimal n ∷ []) run_cnf one.2 one.1 (omega arith) in
            let three = goes_on (decimal vars) (decimal count) two.0 last.0 (decimal v) (decimal n ∷ [])
            (token_run (decimal vars) (token_decimal vars few_vars)) two.2 two.1 (omega arith) in
            (cc (same), λ zero_is. at_zero last.0 three.0 last.2 three.1 three.2 zero_is)
      ]
    where
      at_zero : (rest w : List ℕ) → length back ≡ length rest + 1 → runs w ≡ decimal n ∷ [] → decimal count ≡ w ++ rest → n ≡ 0
          → (count ≡ 0) × (length back ≡ 1)
      at_zero rest w sum tokens whole zero_is =
          elim (part_runs (decimal count) w rest (token_run (decimal count) (token_decimal count few)) whole) [
            | inl none ↦ cc (none, tokens)
            | inr single ↦
                let number : w ≡ decimal n = cc (single, tokens) in
                let digit : w ≡ 48 ∷ [] = number ∙ ap decimal zero_is ∙ decimal_digit 0 (omega arith) in
                let alone = zero_alone count rest few (whole ∙ ap (λ (t : List ℕ). t ++ rest) digit) in
                (alone.0, omega (arith, sum, ap length alone.1))
          ]

pub a_beginning_is_no_text : ABeginningIsNoText
unfolding formula_text line_zeros zeros
a_beginning_is_no_text vars entries is front back whole long f text =
    let count : length (clauses_of entries) ≡ length entries = length-map entries (λ e. e.clause) in
    let few_vars : vars < 2 ^ 64 = omega (arith, is.vars) in
    let few : length entries < 2 ^ 64 = omega (arith, is.count) in
    let literals =
    All-map (IsFormulaClause vars) (AllByRecursion (IsLiteral vars)) (λ c clause. clause.0.literals) (clauses_of entries) is.clauses in
    let read = ap zeros text.tokens ∙ written_zeros f.vars text.few_variables text.written text.literals in
    let size : length f.clauses ≡ length text.written = ap length text.clauses ∙ length-map text.written distinct in
    elim (cut (header_line vars (length entries)) (entries_text 1 entries) front back whole) [
      | inl following ↦
          let lines = sym (ap token_lines following.front_is ∙ header_read vars (length entries) few_vars few following.between)
          ∙ text.header in
          let said : decimal (length entries) ≡ decimal (length f.clauses) = cc (lines) in
          let later : token_lines following.between ≡ text.lines = cc (lines) in
          let same : length entries ≡ length f.clauses =
          decimal_injective (length entries) (length f.clauses) few (omega (arith, text.few_clauses)) said in
          let less = entries_part vars is.vars 1 entries following.between back literals following.back_is long in
          let zeros_are = ap (λ (ls : List (List (List ℕ))). zeros (flat_map (λ (line : List (List ℕ)). line) ls)) later in
          omega (arith, less, zeros_are, read, size, same)
      | inr within ↦
          let alone = header_part vars (length entries) few_vars few front within.between within.front_is within.some f.vars
          (length f.clauses) text.lines text.header in
          let none = ap (λ (ls : List (List (List ℕ))). zeros (flat_map (λ (line : List (List ℕ)). line) ls)) alone.0 in
          let ends = alone.1 (omega (arith, none, read, size)) in
          at_end entries ends.0 (omega (arith, ap length within.back_is ∙ length-append within.between (entries_text 1 entries), ends.1))
    ]
  where
    at_end : (es : List Entry) → length es ≡ 0 → length back ≡ 1 + length (entries_text 1 es) → ⊥
    at_end [] none sum = omega arith
    at_end (e ∷ es) none sum = omega arith
