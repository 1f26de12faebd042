-- A few texts, judged by the definition of a text.
use Rattle.std.proofs.Common.{◌≡◌, ◌≢◌, ◌^◌, ◌<◌, ◌≤◌, ℕ, ℤ, pos, negsuc, nat_abs, zero, suc, List, [], ◌∷◌, ◌++◌, codes, map, flat_map}
use Rattle.std.proofs.Common.{get_or, refl, sym, ap, ◌∙◌, arith}
use Rattle.std.specs.Fmt.{decimal, signed_decimal}
use Rattle.std.specs.List.{AllByRecursion}
use Rattle.std.proofs.lemmas.Fmt.{decimal_digit, first_decimal}
use Rattle.lrup_model.specs.Formula.{Cnf}
use Rattle.lrup_model.specs.Literal.{IsLiteral, max_variable}
use Rattle.dimacs.specs.FormulaText.{IsFormulaText}

-- no number is printed with a leading zero
count_begins : (n b : ℕ) (bs : List ℕ) → n < 2 ^ 64 → decimal n ≢ 48 ∷ b ∷ bs
count_begins zero b bs fits e = let one = decimal_digit 0 (omega arith) in cc
count_begins (suc n) b bs fits e =
    let some = first_decimal (suc n) (omega arith) fits in
    omega (arith, some, ap (λ (x : List ℕ). get_or x 0 0) e)

number_begins : (z : ℤ) (b : ℕ) (bs : List ℕ) → nat_abs z < 2 ^ 64 → signed_decimal z ≢ 48 ∷ b ∷ bs
number_begins (pos n) b bs fits e = count_begins n b bs fits e
number_begins (negsuc n) b bs fits e = omega (arith, ap (λ (x : List ℕ). get_or x 0 0) e)

-- no clauses are printed with a leading zero in their first number
clauses_begin : (vars : ℕ) (written : List (List ℤ)) (b : ℕ) (bs : List ℕ) (tokens : List (List ℕ))
    → vars ≤ max_variable → AllByRecursion (AllByRecursion (IsLiteral vars)) written
    → (48 ∷ b ∷ bs) ∷ tokens ≢ map signed_decimal (flat_map (λ clause. clause ++ pos 0 ∷ []) written)
clauses_begin vars [] b bs tokens few all e = cc
clauses_begin vars ([] ∷ written) b bs tokens few all e =
    let first : signed_decimal (pos 0) ≡ 48 ∷ b ∷ bs = cc in
    number_begins (pos 0) b bs (omega arith) first
clauses_begin vars ((z ∷ clause) ∷ written) b bs tokens few all e =
    let first : signed_decimal z ≡ 48 ∷ b ∷ bs = cc in
    number_begins z b bs (omega (arith, few, all.0.0.1)) first

pub zero_in_clause : (f : Cnf) → ¬ IsFormulaText (codes "p cnf 1 1\n01 0\n") f
zero_in_clause f h =
    let header = h.header in
    let lines : h.lines ≡ (codes "01" ∷ codes "0" ∷ []) ∷ [] = cc in
    clauses_begin f.vars h.written 49 [] (codes "0" ∷ []) h.few_variables h.literals (sym (ap (flat_map (λ line. line)) lines) ∙ h.tokens)

pub zero_in_header : (f : Cnf) → ¬ IsFormulaText (codes "p cnf 01 0\n") f
zero_in_header f h =
    let header = h.header in
    let vars : decimal f.vars ≡ codes "01" = cc in
    count_begins f.vars 49 [] (omega (arith, h.few_variables)) vars

pub text_of_two_lines : IsFormulaText (codes "p cnf 2 1\n1\n2 0\n") (record { vars = 2; clauses = (pos 1 ∷ pos 2 ∷ []) ∷ [] })
text_of_two_lines = record {
  lines = (codes "1" ∷ []) ∷ (codes "2" ∷ codes "0" ∷ []) ∷ [];
  header = let one = decimal_digit 1 (omega arith) in let two = decimal_digit 2 (omega arith) in cc;
  written = (pos 1 ∷ pos 2 ∷ []) ∷ [];
  tokens =
      let none = decimal_digit 0 (omega arith) in let one = decimal_digit 1 (omega arith) in let two = decimal_digit 2 (omega arith) in cc;
  literals = (((omega arith, omega arith), ((omega arith, omega arith), tt)), tt);
  sizes = (omega arith, tt);
  few_variables = omega arith;
  few_clauses = omega arith;
  clauses = refl;
}

-- a comment between two lines has no tokens
pub text_of_comment : IsFormulaText (codes "p cnf 2 1\n1\nc 1 0\n2 0\n") (record { vars = 2; clauses = (pos 1 ∷ pos 2 ∷ []) ∷ [] })
text_of_comment =
    let h = text_of_two_lines in
    record {
      lines = h.lines;
      header = h.header;
      written = h.written;
      tokens = h.tokens;
      literals = h.literals;
      sizes = h.sizes;
      few_variables = h.few_variables;
      few_clauses = h.few_clauses;
      clauses = h.clauses;
    }
