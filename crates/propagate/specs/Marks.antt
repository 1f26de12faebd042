-- One clause at a time, and what each of its hints does: the idea of Cruz-Filipe et al., Efficient
-- Certified RAT Verification, CADE 2017, without RAT. The rule that no hint may follow a hint that
-- isn't unit is this project's own.
use Rattle.std.specs.Prelude.{◌≡◌, ◌++◌, ℕ, ℤ, neg_ℤ, Bool, false, List, [], ◌∷◌}
use Rattle.lrup_model.specs.Clause.{Clause}
use Rattle.lrup_model.specs.Propagation.{IsConflict, IsUnit}
use Rattle.propagate.specs.declared.marks.Step.{Step}
use Rattle.propagate.specs.declared.marks.Step.TheVariants as steps

-- The variables are 1 to `vars`; `clause` is the clause that was begun; `falses` are the false
-- literals, newest last; `ready` says whether a hint may follow.
pub record Propagation : Type 0 where
  pub vars : ℕ
  pub clause : Clause
  pub falses : List ℤ
  pub ready : Bool

-- what a hinted clause is, and which literals are false after it
abbrev pub Steps : Propagation → Clause → Step → Propagation → Type 0
Steps old clause steps.Unit new =
    (literal : ℤ) × IsUnit old.falses clause literal
    × (new ≡ record old { falses = old.falses ++ neg_ℤ literal ∷ [] })
Steps old clause steps.Conflict new =
    IsConflict old.falses clause × (new ≡ record old { ready = false })
Steps old clause steps.NotUnit new =
    (¬ IsConflict old.falses clause) × ((literal : ℤ) → ¬ IsUnit old.falses clause literal)
    × (new ≡ record old { ready = false })
