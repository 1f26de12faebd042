-- A file is a text of at most one formula, up to the order of the literals in its clauses.
use Rattle.std.proofs.Common.{◌≡◌, ◌<◌, ℕ, ℤ, pos, nat_abs, List, [], ◌∷◌, ◌++◌, flat_map, refl, sym, ap, ◌∙◌, subst, arith}
use Rattle.std.specs.List.{AllByRecursion}
use Rattle.std.proofs.lemmas.List.{append-nil, append_assoc}
use Rattle.lrup_model.specs.Literal.{IsLiteral}
use Rattle.lrup_model.specs.Clause.{Clause}
use Rattle.lrup_model.specs.Formula.{Cnf}
use Rattle.dimacs.specs.Lines.{Line, Token, lines_of, all_tokens}
use Rattle.dimacs.specs.FormulaTokens.{InBodyOf, IsWritten, AreSetsOf, AreClauses, ended}
use Rattle.dimacs.specs.FormulaText.{IsFormulaText}
use Rattle.dimacs.proofs.TextLemmas.{body_of_text}
use Rattle.dimacs.proofs.LawLemmas.{one_header, somes-injective}

-- a clause ends at its first 0
first_clause : (vars : ℕ) (c d xs ys : List ℤ) → AllByRecursion (IsLiteral vars) c → AllByRecursion (IsLiteral vars) d
    → c ++ pos 0 ∷ xs ≡ d ++ pos 0 ∷ ys → (c ≡ d) × (xs ≡ ys)
first_clause vars [] [] xs ys all too e = let same : xs ≡ ys = cc in (refl, same)
first_clause vars [] (y ∷ d) xs ys all too e =
    let zero_y : pos 0 ≡ y = cc in absurd (let some : 0 < 0 = subst (λ (z : ℤ). 0 < nat_abs z) (sym zero_y) too.0.0 in omega (arith, some))
first_clause vars (x ∷ c) [] xs ys all too e =
    let zero_x : pos 0 ≡ x = cc in absurd (let some : 0 < 0 = subst (λ (z : ℤ). 0 < nat_abs z) (sym zero_x) all.0.0 in omega (arith, some))
first_clause vars (x ∷ c) (y ∷ d) xs ys all too e =
    let head : x ≡ y = cc in
    let tail : c ++ pos 0 ∷ xs ≡ d ++ pos 0 ∷ ys = cc in
    let below = first_clause vars c d xs ys all.1 too.1 tail in
    (ap (λ (z : ℤ). z ∷ c) head ∙ ap (λ (l : List ℤ). y ∷ l) below.0, below.1)

nonempty : (c rest : List ℤ) → [] ≡ (c ++ pos 0 ∷ []) ++ rest → ⊥
nonempty [] rest e = cc
nonempty (x ∷ c) rest e = cc

one_writing : (vars : ℕ) (v w : List (List ℤ)) → AllByRecursion (IsWritten vars) v → AllByRecursion (IsWritten vars) w
    → flat_map ended v ≡ flat_map ended w → v ≡ w
one_writing vars [] [] all too e = refl
one_writing vars [] (d ∷ w) all too e = absurd (nonempty d (flat_map ended w) e)
one_writing vars (c ∷ v) [] all too e = absurd (nonempty c (flat_map ended v) (sym e))
one_writing vars (c ∷ v) (d ∷ w) all too e =
    let cut = first_clause vars c d (flat_map ended v) (flat_map ended w) all.0.within too.0.within
    (sym (append_assoc c (pos 0 ∷ []) (flat_map ended v)) ∙ e ∙ append_assoc d (pos 0 ∷ []) (flat_map ended w)) in
    ap (λ (x : List ℤ). x ∷ v) cut.0 ∙ ap (λ (x : List (List ℤ)). d ∷ x) (one_writing vars v w all.1 too.1 cut.1)

same_sets : (written : List (List ℤ)) (f g : List Clause) → AreSetsOf written f → AreSetsOf written g → f ≡ g
same_sets [] [] [] h k = refl
same_sets [] [] (d ∷ g) h k = absurd k
same_sets [] (c ∷ f) g h k = absurd h
same_sets (w ∷ written) [] g h k = absurd h
same_sets (w ∷ written) (c ∷ f) [] h k = absurd k
same_sets (w ∷ written) (c ∷ f) (d ∷ g) h k = ap (λ (x : Clause). x ∷ f) (h.0.order ∙ sym k.0.order)
    ∙ ap (λ (x : List Clause). d ∷ x) (same_sets written f g h.1 k.1)

same_clauses : (f g : Cnf) (vars count : ℕ) (all : List Token) → AreClauses f vars count all → AreClauses g vars count all → f ≡ g
same_clauses f g vars count all h k =
    let numbers = somes-injective (flat_map ended h.written ++ []) (flat_map ended k.written ++ []) (sym h.read.numbers ∙ k.read.numbers) in
    let same = one_writing vars h.written k.written h.read.closed_within k.read.closed_within
    (sym (append-nil (flat_map ended h.written)) ∙ numbers ∙ append-nil (flat_map ended k.written)) in
    let vars : f.vars ≡ g.vars = h.vars_are ∙ sym k.vars_are in
    let clauses : f.clauses ≡ g.clauses = same_sets k.written f.clauses g.clauses (rw same at h.sets) k.sets in
    ap (λ (n : ℕ). record { vars = n; clauses = f.clauses }) vars
    ∙ ap (λ (cs : List Clause). record { vars = g.vars; clauses = cs }) clauses

in_lines : (lines : List Line) (f g : Cnf) → InBodyOf lines (AreClauses f) → InBodyOf lines (AreClauses g) → f ≡ g
in_lines [] f g h k = absurd h
in_lines (header ∷ lines) f g h k =
    let same = one_header header.tokens h.vars h.count k.vars k.count h.spelled k.spelled in
    let there : AreClauses g h.vars h.count (all_tokens lines) = rw (same.0, same.1) k.later in
    same_clauses f g h.vars h.count (all_tokens lines) h.later there

pub one_formula : (bytes : List ℕ) (f g : Cnf) → IsFormulaText bytes f → IsFormulaText bytes g → f ≡ g
one_formula bytes f g h k = in_lines (lines_of bytes) f g (body_of_text bytes f h) (body_of_text bytes g k)
