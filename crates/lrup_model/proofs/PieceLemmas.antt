-- Lemmas about a list of literals cut into clauses.
use Rattle.std.proofs.Common.{◌≡◌, ℕ, zero, suc, ◌+◌, ◌-◌, ◌<◌, ◌≤◌, List, [], ◌∷◌, ◌++◌, length, get_or, take, drop, refl, sym, ap, subst}
use Rattle.std.proofs.Common.{◌∙◌, arith, length-append, length-drop, length-take}
use Rattle.std.specs.Prelude.{slice_range}
use Rattle.std.specs.List.{sum_by, AllByRecursion}
use Rattle.std.proofs.lemmas.List.{take-append-le, drop-append-le}
use Rattle.std.proofs.Math.Seq.{drop-append_seam, take-length}
use Rattle.std.proofs.lemmas.List.Sums.{sum_by-cons}
use Rattle.lrup_model.specs.Clause.{Clause}
use Rattle.lrup_model.specs.Formula.{Cnf, IsCnf, IsFormulaClause, max_clauses}
use Rattle.lrup_model.specs.internal.Pieces.{pieces, AreEnds}
use Rattle.lrup_model.specs.lemmas.ListLemmas.{All-push}

pub length-pieces : (ls : Clause) (from : ℕ) (ends : List ℕ) → length (pieces ls from ends) ≡ length ends
length-pieces ls from [] = refl
length-pieces ls from (end ∷ ends) = ap suc (length-pieces ls end ends)

-- the start is at most the end of the list
pub AreEnds-le : (from : ℕ) (ends : List ℕ) (all : ℕ) → AreEnds from ends all → from ≤ all
AreEnds-le from [] all h = omega (arith, h)
AreEnds-le from (end ∷ ends) all h = omega (arith, h.0, AreEnds-le end ends all h.1)

pub AreEnds-push : (from : ℕ) (ends : List ℕ) (all more : ℕ) → AreEnds from ends all → all ≤ more → AreEnds from (ends ++ more ∷ []) more
AreEnds-push from [] all more h le = (omega (arith, h, le), refl)
AreEnds-push from (end ∷ ends) all more h le = (h.0, AreEnds-push end ends all more h.1 le)

-- a range of a list stays the same when the list grows at its end
pub slice_range-append : (ls xs : Clause) (i j : ℕ) → i ≤ j → j ≤ length ls → slice_range (ls ++ xs) i j ≡ slice_range ls i j
slice_range-append ls xs i j ordered inside =
    let first : i ≤ length ls = omega arith in
    let part : j - i ≤ length (drop i ls) = simp length-drop (omega arith) in
    ap (take (j - i)) (drop-append-le i ls xs first) ∙ take-append-le (j - i) (drop i ls) xs part

pub slice_range-end : (ls xs : Clause) → slice_range (ls ++ xs) (length ls) (length ls + length xs) ≡ xs
slice_range-end ls xs =
    let n : length ls + length xs - length ls ≡ length xs = omega arith in
    ap (take (length ls + length xs - length ls)) (drop-append_seam ls xs) ∙ ap (λ k. take k xs) n ∙ take-length xs

pub pieces-push : (ls xs : Clause) (from : ℕ) (ends : List ℕ) → AreEnds from ends (length ls)
    → pieces (ls ++ xs) from (ends ++ (length ls + length xs) ∷ []) ≡ pieces ls from ends ++ xs ∷ []
pieces-push ls xs from [] h = ap (λ c. c ∷ []) (ap (λ k. slice_range (ls ++ xs) k (length ls + length xs)) h ∙ slice_range-end ls xs)
pieces-push ls xs from (end ∷ ends) h =
    let here : slice_range (ls ++ xs) from end ≡ slice_range ls from end =
    slice_range-append ls xs from end h.0 (AreEnds-le end ends (length ls) h.1) in
    let there : pieces (ls ++ xs) end (ends ++ (length ls + length xs) ∷ []) ≡ pieces ls end ends ++ xs ∷ [] =
    pieces-push ls xs end ends h.1 in
    cc

pub sum_by-pieces : (ls : Clause) (from : ℕ) (ends : List ℕ) → AreEnds from ends (length ls)
    → sum_by length (pieces ls from ends) + from ≡ length ls
sum_by-pieces ls from [] h = omega (arith, h)
sum_by-pieces ls from (end ∷ ends) h =
    let rest : sum_by length (pieces ls end ends) + end ≡ length ls = sum_by-pieces ls end ends h.1 in
    let inside : end ≤ length ls = AreEnds-le end ends (length ls) h.1 in
    let here : length (slice_range ls from end) ≡ end - from = simp (length-take, length-drop) (omega (arith, h.0)) in
    omega (arith, h.0, sum_by-cons length (slice_range ls from end) (pieces ls end ends))

pub AreEnds-at : (from : ℕ) (ends : List ℕ) (all i : ℕ) → AreEnds from ends all → i < length ends
    → (get_or (from ∷ ends) i 0 ≤ get_or ends i 0) × (get_or ends i 0 ≤ all)
AreEnds-at from [] all i h lt = absurd (omega (arith, lt))
AreEnds-at from (end ∷ ends) all zero h lt = (h.0, AreEnds-le end ends all h.1)
AreEnds-at from (end ∷ ends) all (suc i) h lt = AreEnds-at end ends all i h.1 (omega (arith, lt))

pub pieces-at : (ls : Clause) (from : ℕ) (ends : List ℕ) (i : ℕ) → i < length ends
    → get_or (pieces ls from ends) i [] ≡ slice_range ls (get_or (from ∷ ends) i 0) (get_or ends i 0)
pieces-at ls from [] i lt = absurd (omega (arith, lt))
pieces-at ls from (end ∷ ends) zero lt = refl
pieces-at ls from (end ∷ ends) (suc i) lt = pieces-at ls end ends i (omega (arith, lt))

-- after one more clause is appended, the formula is within the limits and its ends are valid
pub grown : (vars : ℕ) (ls xs : Clause) (ends : List ℕ)
    → IsCnf (record { vars = vars; clauses = pieces ls 0 ends }) × AreEnds 0 ends (length ls)
    → length (pieces ls 0 ends) < max_clauses → IsFormulaClause vars xs
    → IsCnf (record { vars = vars; clauses = pieces (ls ++ xs) 0 (ends ++ (length ls + length xs) ∷ []) })
    × AreEnds 0 (ends ++ (length ls + length xs) ∷ []) (length ls + length xs)
grown vars ls xs ends h room clause =
    let clauses : AllByRecursion (IsFormulaClause vars) (pieces ls 0 ends ++ xs ∷ []) =
    All-push (IsFormulaClause vars) (pieces ls 0 ends) xs h.0.clauses clause in
    let cut : pieces (ls ++ xs) 0 (ends ++ (length ls + length xs) ∷ []) ≡ pieces ls 0 ends ++ xs ∷ [] = pieces-push ls xs 0 ends h.1 in
    let count : length (pieces ls 0 ends ++ xs ∷ []) ≤ max_clauses = omega (arith, length-append (pieces ls 0 ends) (xs ∷ [])) in (
      rw cut (record { vars = h.0.vars; count = count; clauses = clauses }),
      AreEnds-push 0 ends (length ls) (length ls + length xs) h.1 (omega arith),
    )

-- lists that satisfy these equations make up the formula with one more clause appended
pub grown_to : (f : Cnf) (vars : ℕ) (ls xs more : Clause) (ends new : List ℕ)
    → ◌≡◌ {A = Cnf} (record { vars = vars; clauses = pieces ls 0 ends }) f
    → IsCnf (record { vars = vars; clauses = pieces ls 0 ends }) × AreEnds 0 ends (length ls)
    → length f.clauses < max_clauses → IsFormulaClause f.vars xs
    → more ≡ ls ++ xs → new ≡ ends ++ length more ∷ []
    → IsCnf (record { vars = vars; clauses = pieces more 0 new }) × AreEnds 0 new (length more)
grown_to f vars ls xs more ends new view h room clause grows ends_grow =
    let room' : length (pieces ls 0 ends) < max_clauses = omega (arith, ap (λ (g : Cnf). length g.clauses) view) in
    let clause' : IsFormulaClause vars xs = subst (λ (g : Cnf). IsFormulaClause g.vars xs) (sym view) clause in
    let all : length more ≡ length ls + length xs = ap length grows ∙ length-append ls xs in
    let g = grown vars ls xs ends h room' clause' in
    rw (ends_grow, all, grows) g

pub grown_view : (f : Cnf) (vars : ℕ) (ls xs more : Clause) (ends new : List ℕ)
    → ◌≡◌ {A = Cnf} (record { vars = vars; clauses = pieces ls 0 ends }) f
    → AreEnds 0 ends (length ls)
    → more ≡ ls ++ xs → new ≡ ends ++ length more ∷ []
    → ◌≡◌ {A = Cnf} (record { vars = vars; clauses = pieces more 0 new }) (record { vars = f.vars; clauses = f.clauses ++ xs ∷ [] })
grown_view f vars ls xs more ends new view h grows ends_grow =
    let all : length more ≡ length ls + length xs = ap length grows ∙ length-append ls xs in
    let cut : pieces more 0 new ≡ pieces ls 0 ends ++ xs ∷ [] = rw (ends_grow, all, grows) (pieces-push ls xs 0 ends h) in
    ap (λ (cs : List Clause). record { vars = vars; clauses = cs }) cut
    ∙ ap (λ (g : Cnf). record { vars = g.vars; clauses = g.clauses ++ xs ∷ [] }) view
