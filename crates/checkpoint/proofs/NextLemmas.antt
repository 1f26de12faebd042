-- The returned formula is the one whose text was written.
use Rattle.std.proofs.Common.{◌≡◌, ◌<◌, ◌≤◌, ◌+◌, ◌++◌, ◌∷◌, ℕ, zero, suc, List, [], length, take, get_or, sym, ap, ◌∙◌, arith}
use Rattle.std.proofs.Common.{subst}
use Rattle.std.specs.List.{AllByRecursion}
use Rattle.std.proofs.lemmas.List.{map_more, map-append}
use Rattle.lrup_model.specs.Clause.{Clause, IsClause}
use Rattle.lrup_model.specs.Entailment.{IsDerived}
use Rattle.lrup_model.specs.Formula.{Cnf, IsFormulaClause, max_clause_literals}
use Rattle.lrup_model.specs.CallerView.{CallerView, ClipValue, clip_clause}
use Rattle.checkpoint.specs.Live.{Entry, clauses_of, entries_of, entry_of}
use Rattle.checkpoint.specs.Printing.{printed}

module _ (p : CallerView) (vars : ℕ) where
  -- the clause of the clip at this index is allowed in a formula over these variables
  pub clause_at_clip : (clips : List ClipValue) (k : ℕ) (d : ClipValue) → k < length clips
      → AllByRecursion (IsFormulaClause vars) (clauses_of (entries_of p clips)) → IsFormulaClause vars (clip_clause p (get_or clips k d))
  clause_at_clip [] k d within all = absurd (omega (arith, within))
  clause_at_clip (c ∷ clips) zero d within all = all.0
  clause_at_clip (c ∷ clips) (suc k) d within all = clause_at_clip clips k d (omega (arith, within)) all.1

  -- the formula of the first k clips, with the clause of the next clip appended, is the formula of
  -- the first k + 1
  pub printed_next : (clips : List ClipValue) (k : ℕ) (d : ClipValue) (f g : Cnf) → k < length clips
      → f ≡ printed vars (entries_of p (take k clips))
      → g ≡ record f { clauses = f.clauses ++ clip_clause p (get_or clips k d) ∷ [] }
      → g ≡ printed vars (entries_of p (take (k + 1) clips))
  printed_next clips k d f g within before next =
      let more : clauses_of (entries_of p (take (k + 1) clips))
      ≡ clauses_of (entries_of p (take k clips)) ++ clip_clause p (get_or clips k d) ∷ [] =
      ap clauses_of (map_more (entry_of p) clips k d within)
      ∙ map-append (λ (e : Entry). e.clause) (entries_of p (take k clips)) (entry_of p (get_or clips k d) ∷ []) in
      next ∙ ap (λ (h : Cnf). record h { clauses = h.clauses ++ clip_clause p (get_or clips k d) ∷ [] }) before
      ∙ ap (λ (cs : List Clause). record { vars = vars; clauses = cs }) (sym more)

-- derived clauses that are short enough are allowed in a formula over these variables
pub derived_clauses : (f : Cnf) (vars : ℕ) (cs : List Clause) → vars ≡ f.vars → AllByRecursion (IsDerived f) cs
    → AllByRecursion (λ c. length c ≤ max_clause_literals) cs → AllByRecursion (IsFormulaClause vars) cs
derived_clauses f vars [] same derived short = tt
derived_clauses f vars (c ∷ cs) same derived short =
    ((subst (λ n. IsClause n c) (sym same) derived.0.0, short.0), derived_clauses f vars cs same derived.1 short.1)
