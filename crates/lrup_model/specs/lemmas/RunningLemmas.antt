-- State and legality after one history and then another, and how much room an event uses. The laws
-- of a caller's view of a clause map rely on these lemmas, so the lemmas are next to the
-- definitions.
use Rattle.std.specs.Prelude.{◌≡◌, ◌+◌, ◌==◌, ◌++◌, ℕ, [], ◌∷◌, length}
use Rattle.std.specs.List.{sum_by, AllByRecursion}
use Rattle.std.proofs.Common.{refl, ap, arith}
use Rattle.std.proofs.lemmas.List.Elements.{filter-append}
use Rattle.std.proofs.lemmas.List.Sums.{sum_by-append, sum_by-cons}
use Rattle.lrup_model.specs.Formula.{Cnf}
use Rattle.lrup_model.specs.Layout.{LayoutValue}
use Rattle.lrup_model.specs.Event as events
use Rattle.lrup_model.specs.Event.{History, stream_of, own, published, spent, size_of}
use Rattle.lrup_model.specs.declared.clause_map.Published.TheVariants as publishing
use Rattle.lrup_model.specs.State.{State, after, run}
use Rattle.lrup_model.specs.History.{LegalFrom}

pub run-append : (m : State) (g h : History) → run m (g ++ h) ≡ run (run m g) h
run-append m [] h = refl
run-append m (e ∷ g) h = run-append (after m e) g h

pub legal-append : (f : Cnf) (p : LayoutValue) (m : State) (g h : History) → LegalFrom f p m g
    → LegalFrom f p (run m g) h → LegalFrom f p m (g ++ h)
legal-append f p m [] h front back = back
legal-append f p m (e ∷ g) h front back = (front.0, front.1, legal-append f p (after m e) g h front.2 back)

pub own-append : (g h : History) (s : ℕ) → own (g ++ h) s ≡ own g s ++ own h s
own-append g h s = filter-append (λ e. stream_of e == s) g h

sizes : (es : History) → sum_by (λ p. length p.1) (published es) ≡ sum_by size_of es
sizes [] = refl
sizes (events.fetch s id r ∷ es) =
    omega (arith, sizes es, sum_by-cons size_of (events.fetch s id r) es)
sizes (events.publish s id c publishing.Done ∷ es) =
    omega (arith, sizes es, sum_by-cons size_of (events.publish s id c publishing.Done) es, sum_by-cons (λ p. length p.1) (id, c) (published es))
sizes (events.publish s id c publishing.Taken ∷ es) =
    omega (arith, sizes es, sum_by-cons size_of (events.publish s id c publishing.Taken) es)
sizes (events.retire s id r ∷ es) =
    omega (arith, sizes es, sum_by-cons size_of (events.retire s id r) es)

pub spent-sizes : (s : ℕ) (h : History) → spent s h ≡ sum_by size_of (own h s)
spent-sizes s h = sizes (own h s)

pub spent-append : (s : ℕ) (g h : History) → spent s (g ++ h) ≡ spent s g + spent s h
spent-append s g h =
    let both = sum_by-append size_of (own g s) (own h s) in
    let all = ap (sum_by size_of) (own-append g h s) in
    omega (arith, both, all, spent-sizes s (g ++ h), spent-sizes s g, spent-sizes s h)

pub callers-append : (s : ℕ) (g h : History) → AllByRecursion (λ e. stream_of e ≡ s) g
    → AllByRecursion (λ e. stream_of e ≡ s) h → AllByRecursion (λ e. stream_of e ≡ s) (g ++ h)
callers-append s [] h front back = back
callers-append s (e ∷ g) h front back = (front.0, callers-append s g h front.1 back)
