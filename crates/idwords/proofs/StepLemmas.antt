-- Lemmas about steps: what a step does to a thread state, under that state's own formula and
-- layout, implies what the row requires of the step.
use Rattle.std.proofs.Common.{◌≡◌, ℕ, ◌<◌, List, [], ◌∷◌, set, slice_index, slice_set, refl, subst}
use mathlib.Core.Option.{some}
use lib.ListN.{get_elem?}
use Rattle.atomic_table.specs.Table.{Step, Me, keeps, Allows}
use Rattle.lrup_model.specs.Formula.{Cnf}
use Rattle.lrup_model.specs.Layout.{LayoutValue}
use Rattle.lrup_model.specs.Event.{History}
use Rattle.idwords.specs.Seats.{ThreadState}
use Rattle.idwords.specs.internal.Rule.{Agrees, Keeps, HoldsRowInvariant}
use Rattle.idwords.specs.internal.Steps.{Changes, Writes, Stores}
use Rattle.idwords.proofs.RuleLemmas.{OwnKeeps}
use Rattle.idwords.proofs.ViewLemmas.{all_at}

-- Take a row that fits a log beginning with what this thread state has seen, and in which token id
-- has only this thread state. After the step on word i, there is a new thread state with which the
-- row fits a log, and for which `then` is true.
abbrev pub OwnStep : ThreadState → ℕ → ℕ → (ℕ → ℕ) → (ℕ → ThreadState → Type 0) → Type 0
OwnStep v id i f then =
    (more : History) (words : List ℕ) (views : List (List ThreadState)) → OwnKeeps v more words views → get_elem? views id ≡ some (v ∷ [])
    → slice_index words i < 18446744073709551616 → (w : ThreadState) × (log : History)
    × Keeps v.view.caller.formula v.view.caller.layout log (slice_set words i (f (slice_index words i))) (set views id (w ∷ []))
    × then (slice_index words i) w

to_own : (f : Cnf) (p : LayoutValue) (log : History) (words : List ℕ) (views : List (List ThreadState)) (v : ThreadState)
    → Keeps f p log words views
    → (agrees : Agrees f p log words v) → OwnKeeps v agrees.begins.0 words views
to_own f p log words views v kept agrees =
    let by_formula : Keeps v.view.caller.formula p log words views = rw agrees.formula kept in
    let by_layout : Keeps v.view.caller.formula v.view.caller.layout log words views = rw agrees.layout by_formula in
    rw agrees.begins.1 at by_layout

from_own : (f : Cnf) (p : LayoutValue) (g : Cnf) (q : LayoutValue) (log : History) (words : List ℕ)
    (views : List (List ThreadState)) → g ≡ f
    → q ≡ p → Keeps g q log words views → Keeps f p log words views
from_own f p g q log words views same_formula same_layout kept = rw (same_formula, same_layout) at kept

head_of : (v u : ThreadState) → v ∷ [] ≡ u ∷ [] → v ≡ u
head_of v u same = cc

module _ {S : Type 0} where
  pub allows : (f : Cnf) (p : LayoutValue) (slots id : ℕ) (v : ThreadState) (i : ℕ) (g : ℕ → ℕ) (known : ℕ → ThreadState → Type 0)
      (then : ℕ → Me S (List ThreadState) → Type 0)
      → OwnStep v id i g known → ((n : ℕ) (w : ThreadState) → known n w → then n (w ∷ [], []))
      → Allows {S = S} (HoldsRowInvariant f p) slots id (v ∷ [], []) i g then
  allows f p slots id v i g known then own tell s kept homes here small =
      let agrees : Agrees f p kept.0 s.words v = (all_at (Agrees f p kept.0 s.words) s.views id (v ∷ []) here kept.1.threads).0 in
      let done = own agrees.begins.0 s.words s.views (to_own f p kept.0 s.words s.views v kept.1 agrees) here small in (
        done.0 ∷ [],
        keeps,
        tt,
        (
          done.1,
          from_own f p v.view.caller.formula v.view.caller.layout done.1 (slice_set s.words i (g (slice_index s.words i)))
              (set s.views id (done.0 ∷ [])) agrees.formula agrees.layout done.2,
        ),
        tell (slice_index s.words i) done.0 done.3,
      )

  -- what holds for a thread state's change holds for the token that has only this thread state
  pub changes : (R : ℕ → ThreadState → ℕ → ThreadState → Type 0) (step : Step S) (v : ThreadState) (n : ℕ) (w : ThreadState)
      → R step.word v n w
      → Changes R step (v ∷ [], []) n (w ∷ [], [])
  changes R step v n w known u same =
      let one : v ≡ u = head_of v u same in (w, refl, refl, subst (λ (x : ThreadState). R step.word x n w) one known)

  pub stores : (step : Step S) (v : ThreadState) (n : ℕ) (w : ThreadState) → Writes step.first v w → Stores step (v ∷ [], []) n (w ∷ [], [])
  stores step v n w known u same =
      let one : v ≡ u = head_of v u same in (w, refl, refl, subst (λ (x : ThreadState). Writes step.first x w) one known)
