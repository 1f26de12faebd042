-- A text of a formula has no fault, and a file has at most one fault.
use Rattle.std.proofs.Common.{◌≡◌, ◌⊎◌, ◌<◌, ◌≤◌, ℕ, ℤ, pos, nat_abs, List, [], ◌∷◌, ◌++◌, map, flat_map, length, Option, Some, refl, sym}
use Rattle.std.proofs.Common.{ap, ◌∙◌, ⊎_elim, arith}
use Rattle.std.specs.List.{AllByRecursion}
use Rattle.std.proofs.lemmas.List.{map-append}
use Rattle.lrup_model.specs.Literal.{IsLiteral, max_variable}
use Rattle.lrup_model.specs.Formula.{Cnf, max_clauses, max_clause_literals}
use Rattle.dimacs.specs.declared.fault.DimacsFault.{DimacsFault}
use Rattle.dimacs.specs.declared.fault.DimacsFault.TheVariants.{NoHeader, BadHeader, BadNumber, VariableRange, OpenClause, TooFew, TooMany}
use Rattle.dimacs.specs.declared.fault.DimacsFault.TheVariants.{Limit}
use Rattle.dimacs.specs.Lines.{Line, Token, lines_of, all_tokens}
use Rattle.dimacs.specs.Numerals.{number_of}
use Rattle.dimacs.specs.FormulaTokens.{IsHeader, InBodyOf, IsWritten, TokensSpell, AreClauses, ended}
use Rattle.dimacs.specs.FormulaFault.{BeginsHeader, OccursAt, IsBodyFault, IsHeaderFault, IsFormulaFault}
use Rattle.dimacs.proofs.TallyLemmas.{tally, tally_on, Tally, tally-append, further_by_one, longer_by_one, tally_read, numbers}
use Rattle.dimacs.specs.FormulaText.{IsFormulaText}
use Rattle.dimacs.proofs.TextLemmas.{body_of_text}
use Rattle.dimacs.proofs.BuildLemmas.{length-sets}

abbrev numbers_of : List Token → List (Option ℤ)
numbers_of tokens = map (λ (t : Token). number_of t.text) tokens

abbrev somes : List ℤ → List (Option ℤ)
somes zs = map (λ (z : ℤ). Some z) zs

-- ## a token among tokens without a fault

-- the numbers, split at one token
record IsCut (all before : List ℤ) (at : Option ℤ) : Type 0 where
  number : ℤ
  rest : List ℤ
  at_is : at ≡ Some number
  whole : all ≡ before ++ number ∷ rest

cut_numbers : (all before : List ℤ) (at : Option ℤ) (after : List (Option ℤ)) → somes all ≡ somes before ++ at ∷ after → IsCut all before at
cut_numbers [] [] at after e = cc
cut_numbers [] (y ∷ before) at after e = cc
cut_numbers (z ∷ all) [] at after e = record { number = z; rest = all; at_is = let h : at ≡ Some z = cc in h; whole = refl }
cut_numbers (z ∷ all) (y ∷ before) at after e =
    let tail : somes all ≡ somes before ++ at ∷ after = cc in
    let head : z ≡ y = cc in
    let below = cut_numbers all before at after tail in
    record {
      number = below.number;
      rest = below.rest;
      at_is = below.at_is;
      whole = let h : z ∷ all ≡ y ∷ (before ++ below.number ∷ below.rest) = cc (below.whole) in h;
    }

within_literals : (vars : ℕ) (c : List ℤ) → AllByRecursion (IsLiteral vars) c → AllByRecursion (λ (z : ℤ). nat_abs z ≤ vars) c
within_literals vars [] all = tt
within_literals vars (z ∷ c) all = (all.0.1, within_literals vars c all.1)

within_append : (vars : ℕ) (xs ys : List ℤ) → AllByRecursion (λ (z : ℤ). nat_abs z ≤ vars) xs
    → AllByRecursion (λ (z : ℤ). nat_abs z ≤ vars) ys → AllByRecursion (λ (z : ℤ). nat_abs z ≤ vars) (xs ++ ys)
within_append vars [] ys all more = more
within_append vars (x ∷ xs) ys all more = (all.0, within_append vars xs ys all.1 more)

within_clauses : (vars : ℕ) (closed : List (List ℤ)) → AllByRecursion (IsWritten vars) closed
    → AllByRecursion (λ (z : ℤ). nat_abs z ≤ vars) (flat_map ended closed)
within_clauses vars [] all = tt
within_clauses vars (c ∷ closed) all =
    within_append vars (c ++ pos 0 ∷ []) (flat_map ended closed)
    (within_append vars c (pos 0 ∷ []) (within_literals vars c all.0.within) (omega arith, tt)) (within_clauses vars closed all.1)

within_at : (vars : ℕ) (before : List ℤ) (z : ℤ) (rest : List ℤ) → AllByRecursion (λ (y : ℤ). nat_abs y ≤ vars) (before ++ z ∷ rest)
    → nat_abs z ≤ vars
within_at vars [] z rest all = all.0
within_at vars (y ∷ before) z rest all = within_at vars before z rest all.1

-- after tokens without a fault, this token has no fault, either
pub record IsFine (vars count : ℕ) (token : Token) (closed : List (List ℤ)) (begun : List ℤ) : Type 0 where
  pub number : ℤ
  pub spelled : number_of token.text ≡ Some number
  pub within : nat_abs number ≤ vars
  pub room : length closed ≡ count → ⊥
  pub short : 0 < nat_abs number → length begun < max_clause_literals

pub fine : (vars count : ℕ) (all : List Token) (closed' : List (List ℤ)) (begun' : List ℤ) (t : Token) (before after : List Token)
    (closed : List (List ℤ)) (begun : List ℤ) → TokensSpell vars count all closed' begun' → all ≡ before ++ t ∷ after
    → TokensSpell vars count before closed begun → IsFine vars count t closed begun
fine vars count all closed' begun' t before after closed begun whole split read =
    let e : somes (numbers closed' begun') ≡ somes (numbers closed begun) ++ number_of t.text ∷ numbers_of after =
    sym whole.numbers ∙ ap numbers_of split ∙ map-append (λ (u : Token). number_of u.text) before (t ∷ after)
    ∙ ap (λ (x : List (Option ℤ)). x ++ number_of t.text ∷ numbers_of after) read.numbers in
    let cut = cut_numbers (numbers closed' begun') (numbers closed begun) (number_of t.text) (numbers_of after) e in
    let here = tally_read vars count before closed begun read in
    let there = tally_read vars count all closed' begun' whole in
    let t0 = tally 0 0 0 (numbers closed begun) in
    let on : tally 0 0 0 (numbers closed' begun') ≡ tally_on t0 (cut.number ∷ cut.rest) = ap (tally 0 0 0) cut.whole
    ∙ tally-append 0 0 0 (numbers closed begun) (cut.number ∷ cut.rest) in
    let all_within : AllByRecursion (λ (y : ℤ). nat_abs y ≤ vars) (numbers closed' begun') = within_append vars (flat_map ended closed')
    begun' (within_clauses vars closed' whole.closed_within) (within_literals vars begun' whole.begun_within.within) in
    record {
      number = cut.number;
      spelled = cut.at_is;
      within = within_at vars (numbers closed begun) cut.number cut.rest (rw cut.whole at all_within);
      room = λ full.
          let clauses_on = ap (λ (x : Tally). x.ended_clauses) on in
          let begun_on = ap (λ (x : Tally). x.begun) on in
          ⊎_elim
          (λ more. omega (arith, more, clauses_on, here.clauses_are, there.clauses_are, whole.closed_count))
          (λ same. omega (
            arith,
            same.0,
            same.1,
            clauses_on,
            begun_on,
            here.clauses_are,
            there.clauses_are,
            there.literals_are,
            whole.begun_count (omega (arith, same.1, begun_on, there.literals_are)),
          ))
          (further_by_one t0.ended_clauses t0.begun t0.longest cut.number cut.rest);
      short = λ some.
          let longest_on = ap (λ (x : Tally). x.longest) on in
          omega
          (arith, longer_by_one t0.ended_clauses t0.begun t0.longest cut.number cut.rest some, longest_on, here.literals_are, there.short);
    }

pub fine_at : (vars count : ℕ) (all : List Token) (closed' : List (List ℤ)) (begun' : List ℤ) (t : Token) (closed : List (List ℤ))
    (begun : List ℤ) → TokensSpell vars count all closed' begun' → OccursAt t vars count all closed begun → IsFine vars count t closed begun
fine_at vars count all closed' begun' t closed begun whole place =
    fine vars count all closed' begun' t place.before place.after closed begun whole place.whole place.read

-- ## all tokens without a fault

pub somes-injective : (xs ys : List ℤ) → somes xs ≡ somes ys → xs ≡ ys
somes-injective [] [] e = refl
somes-injective [] (y ∷ ys) e = cc
somes-injective (x ∷ xs) [] e = cc
somes-injective (x ∷ xs) (y ∷ ys) e =
    let tail : somes xs ≡ somes ys = cc in
    let below = somes-injective xs ys tail in cc

-- two readings of the same tokens have equal numbers of clauses, and of literals after them
pub one_reading : (vars count : ℕ) (all : List Token) (closed closed' : List (List ℤ)) (begun begun' : List ℤ)
    → TokensSpell vars count all closed begun → TokensSpell vars count all closed' begun'
    → (length closed ≡ length closed') × (length begun ≡ length begun')
one_reading vars count all closed closed' begun begun' one other =
    let same = somes-injective (numbers closed begun) (numbers closed' begun') (sym one.numbers ∙ other.numbers) in
    let t = ap (tally 0 0 0) same in
    let here = tally_read vars count all closed begun one in
    let there = tally_read vars count all closed' begun' other in (
      sym here.clauses_are ∙ ap (λ (x : Tally). x.ended_clauses) t ∙ there.clauses_are,
      sym here.literals_are ∙ ap (λ (x : Tally). x.begun) t ∙ there.literals_are,
    )

-- ## the first law

no_body_fault : (fault : DimacsFault) (f : Cnf) (vars count : ℕ) (all : List Token) → AreClauses f vars count all
    → IsBodyFault fault vars count all → ⊥
no_body_fault (BadNumber line) f vars count all text h =
    let good = fine_at vars count all text.written [] _ h.closed h.begun text.read h.place in
    let e = h.fault in
    let s = good.spelled in cc
no_body_fault (VariableRange line) f vars count all text h =
    let good = fine_at vars count all text.written [] _ h.closed h.begun text.read h.place in
    let e = h.spelled in
    let s = good.spelled in
    let same : good.number ≡ h.number = cc in
    omega (arith, ap nat_abs same, good.within, h.fault)
no_body_fault OpenClause f vars count all text h =
    let same = one_reading vars count all text.written h.closed [] h.begun text.read h.read in
    omega (arith, same.1, h.fault)
no_body_fault TooFew f vars count all text h =
    let same = one_reading vars count all text.written h.closed [] [] text.read h.read in
    omega (arith, same.0, h.fault, text.count_is, length-sets text.written f.clauses text.sets)
no_body_fault (TooMany line) f vars count all text h =
    let good = fine_at vars count all text.written [] _ h.closed [] text.read h.place in
    good.room h.fault
no_body_fault Limit f vars count all text h =
    let good = fine_at vars count all text.written [] h.token h.closed h.begun text.read h.place in
    let e = h.spelled in
    let s = good.spelled in
    let same : good.number ≡ h.number = cc in
    omega (arith, good.short (omega (arith, ap nat_abs same, h.within.0)), h.fault)
no_body_fault _ f vars count all text h = h

pub one_header : (tokens : List (List ℕ)) (vars count vars' count' : ℕ) → IsHeader tokens vars count → IsHeader tokens vars' count'
    → (vars ≡ vars') × (count ≡ count')
one_header (p ∷ q ∷ v ∷ c ∷ []) vars count vars' count' h k = (sym h.2.1 ∙ k.2.1, sym h.3.1 ∙ k.3.1)
one_header _ vars count vars' count' h k = absurd h

pub begins : (tokens : List (List ℕ)) (vars count : ℕ) → IsHeader tokens vars count → BeginsHeader tokens
begins (p ∷ q ∷ v ∷ c ∷ []) vars count h = h.0
begins _ vars count h = absurd h

-- a header that is spelled right and within the limits has no fault
pub no_header_fault : (fault : DimacsFault) (header : Line) (lines : List Line) (vars count : ℕ) → IsHeader header.tokens vars count
    → vars ≤ max_variable → count ≤ max_clauses → IsHeaderFault fault (header ∷ lines) → ⊥
no_header_fault NoHeader header lines vars count spelled few_variables few_clauses h = h (begins header.tokens vars count spelled)
no_header_fault BadHeader header lines vars count spelled few_variables few_clauses h = h.1 vars count spelled
no_header_fault Limit header lines vars count spelled few_variables few_clauses h =
    let same = one_header header.tokens vars count h.vars h.count spelled h.spelled in
    ⊎_elim (λ many. omega (arith, many, same.0)) (λ many. omega (arith, many, same.1)) h.above
no_header_fault _ header lines vars count spelled few_variables few_clauses h = h

in_lines : (lines : List Line) (f : Cnf) (fault : DimacsFault) → InBodyOf lines (AreClauses f)
    → IsHeaderFault fault lines ⊎ InBodyOf lines (IsBodyFault fault) → ⊥
in_lines [] f fault text faulty = absurd text
in_lines (header ∷ lines) f fault text faulty =
    ⊎_elim
    (λ of_header. no_header_fault fault header lines text.vars text.count text.spelled text.few_variables text.few_clauses of_header)
    (λ other.
    let same = one_header header.tokens text.vars text.count other.vars other.count text.spelled other.spelled in
    let there : IsBodyFault fault text.vars text.count (all_tokens lines) = rw (same.0, same.1) other.later in
    no_body_fault fault f text.vars text.count (all_tokens lines) text.later there)
    faulty

pub formula_or_fault : (bytes : List ℕ) (f : Cnf) (fault : DimacsFault) → IsFormulaText bytes f → IsFormulaFault bytes fault → ⊥
formula_or_fault bytes f fault text faulty = in_lines (lines_of bytes) f fault (body_of_text bytes f text) faulty
