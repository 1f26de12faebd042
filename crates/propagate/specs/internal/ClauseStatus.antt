-- Which literals of a clause aren't false (this project's own).
use Rattle.std.specs.Prelude.{ℤ, List}
use Rattle.lrup_model.specs.Clause.{Clause}
use Rattle.lrup_model.specs.Propagation.{IsConflict, IsUnit}
use Rattle.propagate.specs.declared.marks.ClauseStatus.{ClauseStatus}
use Rattle.propagate.specs.declared.marks.ClauseStatus.TheVariants.{Nothing, One, More}

-- which literals aren't false: none (`Nothing`); only this one, which isn't true either (`One`);
-- any others (`More`)
abbrev pub HasStatus : List ℤ → Clause → ClauseStatus → Type 0
HasStatus falses clause Nothing = IsConflict falses clause
HasStatus falses clause (One literal) = IsUnit falses clause literal
HasStatus falses clause More =
    (¬ IsConflict falses clause) × ((literal : ℤ) → ¬ IsUnit falses clause literal)
