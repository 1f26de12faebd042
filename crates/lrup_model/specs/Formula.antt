-- Formulas in conjunctive normal form (textbook; the limits are this project's own).
use Rattle.std.specs.Prelude.{◌-◌, ◌≤◌, ℕ, List, [], length, slice_index_or}
use Rattle.std.specs.List.{AllByRecursion, sum_by}
use Rattle.lrup_model.specs.Literal.{max_variable}
use Rattle.lrup_model.specs.Clause.{Clause, IsClause}

-- a number of variables, and the clauses in the order of the file
pub record Cnf : Type 0 where
  pub vars : ℕ
  pub clauses : List Clause

-- the largest number of clauses
abbrev pub max_clauses : ℕ
max_clauses = 16777215

-- the largest number of literals in one clause
abbrev pub max_clause_literals : ℕ
max_clause_literals = 1048575

-- a clause that a formula over these variables may have
abbrev pub IsFormulaClause : ℕ → Clause → Type 0
IsFormulaClause vars clause = IsClause vars clause × (length clause ≤ max_clause_literals)

-- A formula within the limits.
pub record IsCnf (formula : Cnf) : Type 0 where
  pub vars : formula.vars ≤ max_variable
  pub count : length formula.clauses ≤ max_clauses
  pub clauses : AllByRecursion (IsFormulaClause formula.vars) formula.clauses

-- clause i of the formula, counting from 1
abbrev pub clause_at : Cnf → ℕ → Clause
clause_at formula i = slice_index_or formula.clauses (i - 1) []

-- the number of literals in all clauses together
abbrev pub formula_literals : Cnf → ℕ
formula_literals formula = sum_by length formula.clauses
