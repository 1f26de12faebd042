use Rattle.std.proofs.Common.{◌≡◌, ℕ, ◌+◌, ◌-◌, ◌<◌, suc, List, [], ◌∷◌, length, Some, slice_get, refl, ap, ◌∙◌, arith}
use Rattle.std.proofs.lemmas.Option.{slice_get_within}
use Rattle.lrup_model.specs.Formula.{Cnf}
use Rattle.lrup_model.specs.CallerView.{Caller}
use Rattle.clause_store.specs.Passes.{StoreValue, PassValue}
use Rattle.clause_store_tests.specs.Worked.{IsPassAt, ArePassesAt}
use Rattle.clause_store_tests.proofs.tests.open.Goals as goal

-- if the pass at each index belongs to this store and formula, all passes do
are_at : (f : Cnf) (store : StoreValue) (ps : List PassValue) → ((k : ℕ) (p : PassValue) → slice_get ps k ≡ Some p → IsPassAt f store p)
    → ArePassesAt f store ps
are_at f store [] each = tt
are_at f store (p ∷ ps) each = (each 0 p refl, are_at f store ps (λ k q here. each (suc k) q here))

pub returns : goal.returns
returns c =
    λ f same.
    let passes = c.in_ok-store.passes in
    are_at f c.in_ok-store.store passes.items
    (λ k p here.
    let below : k < length passes.items = slice_get_within passes.items k p here in
    let place : k + 1 - 1 ≡ k = omega arith in
    let opened = c.in_ok-store.ensures.passes (k + 1) p (omega arith, omega (arith, c.in_ok-store.ensures.count, passes.ok.0))
    (ap (λ (n : ℕ). slice_get passes.items n) place ∙ here) in
    (opened.store, ap (λ (u : Caller). u.formula) opened.caller ∙ same))
