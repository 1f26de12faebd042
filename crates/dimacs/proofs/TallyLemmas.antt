-- How many clauses and literals a list of numbers spells, counted from the left; the two laws
-- compare these counts.
use Rattle.std.proofs.Common.{◌≡◌, ◌⊎◌, ◌+◌, ◌<◌, ◌≤◌, ℕ, ℤ, pos, negsuc, nat_abs, List, [], ◌∷◌, ◌++◌, flat_map, length, max, zero, suc}
use Rattle.std.proofs.Common.{refl, ap, ◌∙◌, inl, inr, ⊎_elim, arith}
use Rattle.std.specs.List.{AllByRecursion}
use Rattle.std.proofs.lemmas.List.{append_assoc}
use Rattle.lrup_model.specs.Literal.{IsLiteral}
use Rattle.lrup_model.specs.Formula.{max_clause_literals}
use Rattle.dimacs.specs.Lines.{Token}
use Rattle.dimacs.specs.FormulaTokens.{IsWritten, TokensSpell, ended}

-- the numbers of clauses that have ended and of literals in the clause that has begun, and the
-- largest number of literals in any clause
pub record Tally : Type 0 where
  pub ended_clauses : ℕ
  pub begun : ℕ
  pub longest : ℕ

abbrev pub tally : ℕ → ℕ → ℕ → List ℤ → Tally
tally n k l [] = record { ended_clauses = n; begun = k; longest = l }
tally n k l (pos zero ∷ zs) = tally (n + 1) 0 l zs
tally n k l (pos (suc m) ∷ zs) = tally n (k + 1) (max l (k + 1)) zs
tally n k l (negsuc m ∷ zs) = tally n (k + 1) (max l (k + 1)) zs

abbrev pub tally_on : Tally → List ℤ → Tally
tally_on t zs = tally t.ended_clauses t.begun t.longest zs

pub tally-append : (n k l : ℕ) (xs ys : List ℤ) → tally n k l (xs ++ ys) ≡ tally_on (tally n k l xs) ys
tally-append n k l [] ys = refl
tally-append n k l (pos zero ∷ xs) ys = tally-append (n + 1) 0 l xs ys
tally-append n k l (pos (suc m) ∷ xs) ys = tally-append n (k + 1) (max l (k + 1)) xs ys
tally-append n k l (negsuc m ∷ xs) ys = tally-append n (k + 1) (max l (k + 1)) xs ys

-- later numbers only increase the counts
record GoesOn (n k l : ℕ) (t : Tally) : Type 0 where
  further : (n < t.ended_clauses) ⊎ ((t.ended_clauses ≡ n) × (k ≤ t.begun))
  longer : l ≤ t.longest

goes_on : (n k l : ℕ) (zs : List ℤ) → GoesOn n k l (tally n k l zs)
goes_on n k l [] = record { further = inr (refl, omega arith); longer = omega arith }
goes_on n k l (pos zero ∷ zs) =
    let next = goes_on (n + 1) 0 l zs in
    record { further = inl (⊎_elim (λ more. omega (arith, more)) (λ same. omega (arith, same.0)) next.further); longer = next.longer }
goes_on n k l (_ ∷ zs) =
    let next = goes_on n (k + 1) (max l (k + 1)) zs in
    record {
      further = ⊎_elim (λ more. inl more) (λ same. inr (same.0, omega (arith, same.1))) next.further;
      longer = omega (arith, next.longer);
    }

-- one more number increases the counts
pub further_by_one : (n k l : ℕ) (z : ℤ) (zs : List ℤ) → let t = tally n k l (z ∷ zs) in
    (n < t.ended_clauses) ⊎ ((t.ended_clauses ≡ n) × (k < t.begun))
further_by_one n k l (pos zero) zs =
    inl (⊎_elim (λ more. omega (arith, more)) (λ same. omega (arith, same.0)) (goes_on (n + 1) 0 l zs).further)
further_by_one n k l _ zs =
    ⊎_elim (λ more. inl more) (λ same. inr (same.0, omega (arith, same.1))) (goes_on n (k + 1) (max l (k + 1)) zs).further

-- one more literal in a clause of k literals makes the largest number of literals exceed k
pub longer_by_one : (n k l : ℕ) (z : ℤ) (zs : List ℤ) → 0 < nat_abs z → k < (tally n k l (z ∷ zs)).longest
longer_by_one n k l (pos zero) zs some = absurd (omega arith)
longer_by_one n k l (pos (suc m)) zs some = omega (arith, (goes_on n (k + 1) (max l (k + 1)) zs).longer)
longer_by_one n k l (negsuc m) zs some = omega (arith, (goes_on n (k + 1) (max l (k + 1)) zs).longer)

-- the counts of tokens without a fault
pub record Comes (t : Tally) (clauses literals : ℕ) : Type 0 where
  pub clauses_are : t.ended_clauses ≡ clauses
  pub literals_are : t.begun ≡ literals
  pub short : t.longest ≤ max_clause_literals

tally_literals : (vars n k l : ℕ) (c : List ℤ) → AllByRecursion (IsLiteral vars) c → l ≤ max_clause_literals
    → k + length c ≤ max_clause_literals → Comes (tally n k l c) n (k + length c)
tally_literals vars n k l [] all few short = record { clauses_are = refl; literals_are = omega arith; short = few }
tally_literals vars n k l (pos zero ∷ c) all few short = absurd (omega (arith, all.0.0))
tally_literals vars n k l (_ ∷ c) all few short =
    let next = tally_literals vars n (k + 1) (max l (k + 1)) c all.1 (omega arith) (omega arith) in
    record { clauses_are = next.clauses_are; literals_are = omega (arith, next.literals_are); short = next.short }

tally_clauses : (vars n l : ℕ) (closed : List (List ℤ)) → AllByRecursion (IsWritten vars) closed → l ≤ max_clause_literals
    → Comes (tally n 0 l (flat_map ended closed)) (n + length closed) 0
tally_clauses vars n l [] all few = record { clauses_are = omega arith; literals_are = refl; short = few }
tally_clauses vars n l (c ∷ closed) all few =
    let first = tally_literals vars n 0 l c all.0.within few (omega (arith, all.0.size)) in
    let t = tally n 0 l c in
    let whole : tally n 0 l ((c ++ pos 0 ∷ []) ++ flat_map ended closed) ≡ tally (t.ended_clauses + 1) 0 t.longest (flat_map ended closed) =
    ap (tally n 0 l) (append_assoc c (pos 0 ∷ []) (flat_map ended closed)) ∙ tally-append n 0 l c (pos 0 ∷ flat_map ended closed) in
    let next = tally_clauses vars (t.ended_clauses + 1) t.longest closed all.1 first.short in
    rw whole (record {
      clauses_are = omega (arith, next.clauses_are, first.clauses_are);
      literals_are = next.literals_are;
      short = next.short;
    })

-- the numbers of tokens without a fault
abbrev pub numbers : List (List ℤ) → List ℤ → List ℤ
numbers closed begun = flat_map ended closed ++ begun

pub tally_read : (vars count : ℕ) (tokens : List Token) (closed : List (List ℤ)) (begun : List ℤ)
    → TokensSpell vars count tokens closed begun → Comes (tally 0 0 0 (numbers closed begun)) (length closed) (length begun)
tally_read vars count tokens closed begun read =
    let first = tally_clauses vars 0 0 closed read.closed_within (omega arith) in
    let t = tally 0 0 0 (flat_map ended closed) in
    let next = tally_literals vars t.ended_clauses t.begun t.longest begun read.begun_within.within first.short
    (omega (arith, first.literals_are, read.begun_within.size)) in
    rw (tally-append 0 0 0 (flat_map ended closed) begun) (record {
      clauses_are = omega (arith, next.clauses_are, first.clauses_are);
      literals_are = omega (arith, next.literals_are, first.literals_are);
      short = next.short;
    })
