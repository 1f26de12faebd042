-- Lemmas about hinted unit propagation.
use Rattle.std.proofs.Common.{inl, inr, ℤ, neg_ℤ, List, [], ◌∷◌, ◌++◌, refl, sym, ap, subst, ◌∙◌}
use Rattle.std.specs.Prelude.{◌≡◌}
use Rattle.lrup_model.specs.Clause.{Clause}
use Rattle.lrup_model.specs.Propagation.{IsConflict, IsUnit, Refutes, Accepts}
use Rattle.propagate.specs.Hints.{Leads}
use Rattle.propagate.specs.Laws.{AcceptsExactly}

-- a unit clause has only one unit literal
pub unit_is_unique : (n : List ℤ) (d : Clause) (l k : ℤ) → IsUnit n d l → IsUnit n d k → l ≡ k
unit_is_unique n d l k a b =
    elim (b.others l a.here) [ inl same ↦ same | inr is_false ↦ absurd (a.not_false is_false) ]

-- a unit clause isn't a conflict
pub unit_is_no_conflict : (n : List ℤ) (d : Clause) (l : ℤ) → IsUnit n d l → ¬ IsConflict n d
unit_is_no_conflict n d l unit conflict = unit.not_false (conflict l unit.here)

-- one more unit clause after unit clauses makes one more literal false
pub leads_on : (n m : List ℤ) (ds : List Clause) (d : Clause) (l : ℤ) → Leads n ds m → IsUnit m d l
    → Leads n (ds ++ d ∷ []) (m ++ neg_ℤ l ∷ [])
leads_on n m [] d l same unit =
    (l, subst (λ k. IsUnit k d l) (sym same) unit, ap (λ k. k ++ neg_ℤ l ∷ []) same)
leads_on n m (e ∷ ds) d l leads unit =
    (leads.0, leads.1, leads_on (n ++ neg_ℤ leads.0 ∷ []) m ds d l leads.2 unit)

refutes_from : (n m : List ℤ) (ds : List Clause) (d : Clause) → Leads n ds m → IsConflict m d
    → Refutes n (ds ++ d ∷ [])
refutes_from n m [] d same conflict = subst (λ k. IsConflict k d) (sym same) conflict
refutes_from n m (e ∷ []) d leads conflict = (leads.0, leads.1, refutes_from (n ++ neg_ℤ leads.0 ∷ []) m [] d leads.2 conflict)
refutes_from n m (e ∷ f ∷ ds) d leads conflict = (leads.0, leads.1, refutes_from (n ++ neg_ℤ leads.0 ∷ []) m (f ∷ ds) d leads.2 conflict)

leads_from : (n : List ℤ) (ds : List Clause) (d : Clause) → Refutes n (ds ++ d ∷ []) → (m : List ℤ)
    × Leads n ds m × IsConflict m d
leads_from n [] d refutes = (n, refl, refutes)
leads_from n (e ∷ []) d refutes =
    let rest = leads_from (n ++ neg_ℤ refutes.0 ∷ []) [] d refutes.2 in (rest.0, (refutes.0, refutes.1, rest.1), rest.2)
leads_from n (e ∷ f ∷ ds) d refutes =
    let rest = leads_from (n ++ neg_ℤ refutes.0 ∷ []) (f ∷ ds) d refutes.2 in (rest.0, (refutes.0, refutes.1, rest.1), rest.2)

pub accepts_exactly : AcceptsExactly
accepts_exactly c ds d = (
  (λ accepts. (accepts.0, leads_from c ds d accepts.1)),
  (λ both. (both.0, refutes_from c both.1.0 ds d both.1.1 both.1.2)),
)
