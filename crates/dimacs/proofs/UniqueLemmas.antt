-- A file has at most one fault.
use Rattle.std.proofs.Common.{◌≡◌, ◌⊎◌, ◌<◌, ◌≤◌, ℕ, ℤ, nat_abs, cond, ltb, eqb, List, [], ◌∷◌, ◌++◌, length, Option, Some, None, refl, sym}
use Rattle.std.proofs.Common.{ap, ◌∙◌, inl, inr, ⊎_elim, arith, eq-eqb}
use Rattle.std.proofs.lemmas.Bool.{lt-ltb, le-ltb, ne_eqb}
use Rattle.lrup_model.specs.Literal.{IsLiteral}
use Rattle.lrup_model.specs.Formula.{max_clause_literals}
use Rattle.dimacs.specs.declared.fault.DimacsFault.{DimacsFault}
use Rattle.dimacs.specs.declared.fault.DimacsFault.TheVariants.{NoHeader, BadHeader, BadNumber, VariableRange, OpenClause, TooFew, TooMany}
use Rattle.dimacs.specs.declared.fault.DimacsFault.TheVariants.{Limit}
use Rattle.dimacs.specs.Lines.{Line, Token, lines_of, all_tokens}
use Rattle.dimacs.specs.Numerals.{number_of}
use Rattle.dimacs.specs.FormulaTokens.{InBodyOf, TokensSpell}
use Rattle.dimacs.specs.FormulaFault.{HasNoHeader, HasBadHeader, HasLargeHeader, OccursAt, IsBodyFault, IsHeaderFault, IsFormulaFault}
use Rattle.dimacs.proofs.LawLemmas.{IsFine, fine, fine_at, one_reading, one_header, begins, no_header_fault}

-- ## which fault a token has

-- the fault of this token, after this many clauses and literals
abbrev IsTokenFault : DimacsFault → ℕ → ℕ → Token → ℕ → ℕ → Type 0
IsTokenFault fault vars count t clauses literals =
    ((fault ≡ BadNumber t.line) × (number_of t.text ≡ None))
    ⊎ (((z : ℤ) × (fault ≡ VariableRange t.line) × (number_of t.text ≡ Some z) × (vars < nat_abs z))
    ⊎ (((z : ℤ) × (fault ≡ TooMany t.line) × (number_of t.text ≡ Some z) × (nat_abs z ≤ vars) × (clauses ≡ count))
    ⊎ ((z : ℤ) × (fault ≡ Limit) × (number_of t.text ≡ Some z) × IsLiteral vars z × (literals ≡ max_clause_literals))))

abbrev fault_at : ℕ → ℕ → ℕ → Option ℤ → ℕ → DimacsFault
fault_at vars count line None clauses = BadNumber line
fault_at vars count line (Some z) clauses =
    cond (ltb vars (nat_abs z)) (VariableRange line) (cond (eqb clauses count) (TooMany line) Limit)

fault_is : (fault : DimacsFault) (vars count : ℕ) (t : Token) (clauses literals : ℕ) → (0 < literals → clauses < count)
    → IsTokenFault fault vars count t clauses literals → fault ≡ fault_at vars count t.line (number_of t.text) clauses
fault_is fault vars count t clauses literals room h =
    ⊎_elim (λ bad. bad.0 ∙ ap (λ o. fault_at vars count t.line o clauses) (sym bad.1))
    (λ numbers. ⊎_elim (λ large. large.1 ∙ sym (rw (large.2, lt-ltb vars (nat_abs large.0) large.3) refl))
    (λ within. ⊎_elim (λ many. many.1 ∙ sym (rw (many.2, le-ltb vars (nat_abs many.0) many.3, eq-eqb clauses count many.4) refl))
    (λ limit. limit.1 ∙ sym (rw
    (limit.2, le-ltb vars (nat_abs limit.0) limit.3.1, ne_eqb clauses count (λ e. omega (arith, room (omega (arith, limit.4)), e))) refl))
    within) numbers) h

not_fine : (fault : DimacsFault) (vars count : ℕ) (t : Token) (closed : List (List ℤ)) (begun : List ℤ)
    → IsTokenFault fault vars count t (length closed) (length begun) → IsFine vars count t closed begun → ⊥
not_fine fault vars count t closed begun h good =
    let s = good.spelled in
    ⊎_elim (λ bad. let e = bad.1 in cc)
    (λ numbers.
    ⊎_elim (λ large. let e = large.2 in let same : good.number ≡ large.0 = cc in omega (arith, ap nat_abs same, good.within, large.3))
    (λ within. ⊎_elim (λ many. good.room many.4)
    (λ limit. let e = limit.2 in let same : good.number ≡ limit.0 = cc in
    omega (arith, good.short (omega (arith, ap nat_abs same, limit.3.0)), limit.4))
    within) numbers) h

-- ## the fault of a body

record AtToken (fault : DimacsFault) (vars count : ℕ) (all : List Token) : Type 0 where
  token : Token
  closed : List (List ℤ)
  begun : List ℤ
  place : OccursAt token vars count all closed begun
  is : IsTokenFault fault vars count token (length closed) (length begun)

record AtEnd (fault : DimacsFault) (vars count : ℕ) (all : List Token) : Type 0 where
  closed : List (List ℤ)
  begun : List ℤ
  read : TokensSpell vars count all closed begun
  is : ((fault ≡ OpenClause) × (0 < length begun)) ⊎ ((fault ≡ TooFew) × (length begun ≡ 0))

of_body : (fault : DimacsFault) (vars count : ℕ) (all : List Token) → IsBodyFault fault vars count all
    → AtToken fault vars count all ⊎ AtEnd fault vars count all
of_body (BadNumber line) vars count all h =
    inl (record {
      token = record { line = line; text = h.text };
      closed = h.closed;
      begun = h.begun;
      place = h.place;
      is = inl (refl, h.fault);
    })
of_body (VariableRange line) vars count all h =
    inl (record {
      token = record { line = line; text = h.text };
      closed = h.closed;
      begun = h.begun;
      place = h.place;
      is = inr (inl (h.number, refl, h.spelled, h.fault));
    })
of_body OpenClause vars count all h =
    inr (record { closed = h.closed; begun = h.begun; read = h.read; is = inl (refl, h.fault) })
of_body TooFew vars count all h = inr (record { closed = h.closed; begun = []; read = h.read; is = inr (refl, refl) })
of_body (TooMany line) vars count all h =
    inl (record {
      token = record { line = line; text = h.text };
      closed = h.closed;
      begun = [];
      place = h.place;
      is = inr (inr (inl (h.number, refl, h.spelled, h.within, h.fault)));
    })
of_body Limit vars count all h =
    inl (record {
      token = h.token;
      closed = h.closed;
      begun = h.begun;
      place = h.place;
      is = inr (inr (inr (h.number, refl, h.spelled, h.within, h.fault)));
    })
of_body _ vars count all h = absurd h

-- two indices of a list are equal, or one comes before the other
two_places : (xs : List Token) (x : Token) (more : List Token) (ys : List Token) (y : Token) (rest : List Token) → xs ++ x ∷ more
    ≡ ys ++ y ∷ rest → ((xs ≡ ys) × (x ≡ y)) ⊎ (((mid : List Token) × (ys ≡ xs ++ x ∷ mid)) ⊎ ((mid : List Token) × (xs ≡ ys ++ y ∷ mid)))
two_places [] x more [] y rest e = let same : x ≡ y = cc in inl (refl, same)
two_places [] x more (z ∷ ys) y rest e =
    let same : x ≡ z = cc in
    inr (inl (ys, ap (λ (t : Token). t ∷ ys) (sym same)))
two_places (z ∷ xs) x more [] y rest e =
    let same : z ≡ y = cc in
    inr (inr (xs, ap (λ (t : Token). t ∷ xs) same))
two_places (z ∷ xs) x more (w ∷ ys) y rest e =
    let same : z ≡ w = cc in
    let tail : xs ++ x ∷ more ≡ ys ++ y ∷ rest = cc in
    ⊎_elim
    (λ here. inl (ap (λ (t : Token). t ∷ xs) same ∙ ap (λ (s : List Token). w ∷ s) here.0, here.1))
    (λ apart. ⊎_elim
    (λ later. inr (inl (later.0, ap (λ (t : Token). t ∷ ys) (sym same) ∙ ap (λ (s : List Token). z ∷ s) later.1)))
    (λ sooner. inr (inr (sooner.0, ap (λ (t : Token). t ∷ xs) same ∙ ap (λ (s : List Token). w ∷ s) sooner.1)))
    apart)
    (two_places xs x more ys y rest tail)

two_tokens : (a b : DimacsFault) (vars count : ℕ) (all : List Token) → AtToken a vars count all → AtToken b vars count all → a ≡ b
two_tokens a b vars count all one other =
    ⊎_elim
    (λ here.
    let read : TokensSpell vars count one.place.before other.closed other.begun = rw here.0 other.place.read in
    let lengths = one_reading vars count one.place.before one.closed other.closed one.begun other.begun one.place.read read in
    fault_is a vars count one.token (length one.closed) (length one.begun) one.place.read.begun_count one.is
    ∙ ap (λ (t : Token). fault_at vars count t.line (number_of t.text) (length one.closed)) here.1
    ∙ ap (fault_at vars count other.token.line (number_of other.token.text)) lengths.0
    ∙ sym (fault_is b vars count other.token (length other.closed) (length other.begun) other.place.read.begun_count other.is))
    (λ apart. ⊎_elim
    (λ later. absurd (not_fine a vars count one.token one.closed one.begun one.is (fine vars count other.place.before other.closed
    other.begun one.token one.place.before later.0 one.closed one.begun other.place.read later.1 one.place.read)))
    (λ sooner. absurd (not_fine b vars count other.token other.closed other.begun other.is (fine vars count one.place.before one.closed
    one.begun other.token other.place.before sooner.0 other.closed other.begun one.place.read sooner.1 other.place.read)))
    apart)
    (two_places one.place.before one.token one.place.after other.place.before other.token other.place.after
    (sym one.place.whole ∙ other.place.whole))

token_or_end : (a b : DimacsFault) (vars count : ℕ) (all : List Token) → AtToken a vars count all → AtEnd b vars count all → ⊥
token_or_end a b vars count all one other =
    not_fine a vars count one.token one.closed one.begun one.is
    (fine_at vars count all other.closed other.begun one.token one.closed one.begun other.read one.place)

two_ends : (a b : DimacsFault) (vars count : ℕ) (all : List Token) → AtEnd a vars count all → AtEnd b vars count all → a ≡ b
two_ends a b vars count all one other =
    let lengths = one_reading vars count all one.closed other.closed one.begun other.begun one.read other.read in
    ⊎_elim
    (λ unended. ⊎_elim (λ too. unended.0 ∙ sym too.0) (λ few. absurd (omega (arith, lengths.1, unended.1, few.1))) other.is)
    (λ few. ⊎_elim (λ unended. absurd (omega (arith, lengths.1, unended.1, few.1))) (λ too. few.0 ∙ sym too.0) other.is)
    one.is

one_body_fault : (a b : DimacsFault) (vars count : ℕ) (all : List Token) → IsBodyFault a vars count all
    → IsBodyFault b vars count all → a ≡ b
one_body_fault a b vars count all h k =
    ⊎_elim
    (λ token. ⊎_elim (λ other. two_tokens a b vars count all token other) (λ end. absurd (token_or_end a b vars count all token end))
    (of_body b vars count all k))
    (λ end. ⊎_elim (λ token. absurd (token_or_end b a vars count all token end)) (λ other. two_ends a b vars count all end other)
    (of_body b vars count all k))
    (of_body a vars count all h)

-- ## the fault of a header

abbrev HeaderCases : DimacsFault → List Line → Type 0
HeaderCases fault lines =
    ((fault ≡ NoHeader) × HasNoHeader lines) ⊎ (((fault ≡ BadHeader) × HasBadHeader lines) ⊎ ((fault ≡ Limit) × HasLargeHeader lines))

header_cases : (fault : DimacsFault) (lines : List Line) → IsHeaderFault fault lines → HeaderCases fault lines
header_cases NoHeader lines h = inl (refl, h)
header_cases BadHeader lines h = inr (inl (refl, h))
header_cases Limit lines h = inr (inr (refl, h))
header_cases _ lines h = absurd h

none_or_bad : (lines : List Line) → HasNoHeader lines → HasBadHeader lines → ⊥
none_or_bad [] none bad = bad
none_or_bad (header ∷ lines) none bad = none bad.0

none_or_large : (lines : List Line) → HasNoHeader lines → HasLargeHeader lines → ⊥
none_or_large [] none large = large
none_or_large (header ∷ lines) none large = none (begins header.tokens large.vars large.count large.spelled)

bad_or_large : (lines : List Line) → HasBadHeader lines → HasLargeHeader lines → ⊥
bad_or_large [] bad large = bad
bad_or_large (header ∷ lines) bad large = bad.1 large.vars large.count large.spelled

one_header_fault : (a b : DimacsFault) (lines : List Line) → IsHeaderFault a lines → IsHeaderFault b lines → a ≡ b
one_header_fault a b lines h k =
    ⊎_elim
    (λ none. ⊎_elim (λ too. none.0 ∙ sym too.0)
    (λ others. ⊎_elim (λ bad. absurd (none_or_bad lines none.1 bad.1)) (λ large. absurd (none_or_large lines none.1 large.1)) others)
    (header_cases b lines k))
    (λ rest. ⊎_elim
    (λ bad. ⊎_elim (λ none. absurd (none_or_bad lines none.1 bad.1))
    (λ others. ⊎_elim (λ too. bad.0 ∙ sym too.0) (λ large. absurd (bad_or_large lines bad.1 large.1)) others) (header_cases b lines k))
    (λ large. ⊎_elim (λ none. absurd (none_or_large lines none.1 large.1))
    (λ others. ⊎_elim (λ bad. absurd (bad_or_large lines bad.1 large.1)) (λ too. large.0 ∙ sym too.0) others) (header_cases b lines k))
    rest)
    (header_cases a lines h)

-- ## the second law

header_or_body : (a b : DimacsFault) (lines : List Line) → IsHeaderFault a lines → InBodyOf lines (IsBodyFault b) → ⊥
header_or_body a b [] h body = body
header_or_body a b (header ∷ lines) h body =
    no_header_fault a header lines body.vars body.count body.spelled body.few_variables body.few_clauses h

two_bodies : (a b : DimacsFault) (lines : List Line) → InBodyOf lines (IsBodyFault a) → InBodyOf lines (IsBodyFault b) → a ≡ b
two_bodies a b [] h k = absurd h
two_bodies a b (header ∷ lines) h k =
    let same = one_header header.tokens h.vars h.count k.vars k.count h.spelled k.spelled in
    let there : IsBodyFault b h.vars h.count (all_tokens lines) = rw (same.0, same.1) k.later in
    one_body_fault a b h.vars h.count (all_tokens lines) h.later there

pub one_fault : (bytes : List ℕ) (a b : DimacsFault) → IsFormulaFault bytes a → IsFormulaFault bytes b → a ≡ b
one_fault bytes a b h k =
    let lines = lines_of bytes in
    ⊎_elim
    (λ header. ⊎_elim (λ too. one_header_fault a b lines header too) (λ body. absurd (header_or_body a b lines header body)) k)
    (λ body. ⊎_elim (λ header. absurd (header_or_body b a lines header body)) (λ too. two_bodies a b lines body too) k)
    h
