-- Literals, as DIMACS CNF writes them: nonzero integers. The negative of a literal is its
-- complement, and the magnitude is its variable.
use Rattle.std.specs.Prelude.{◌+◌, ◌*◌, ◌≤◌, ◌<◌, ℕ, ℤ, pos, negsuc, nat_abs}

-- the largest variable that a formula may have
abbrev pub max_variable : ℕ
max_variable = 16777215

-- a literal over the variables 1 to vars
abbrev pub IsLiteral : ℕ → ℤ → Type 0
IsLiteral vars l = (0 < nat_abs l) × (nat_abs l ≤ vars)

-- the code of a literal: twice the variable, plus one for a negative literal
abbrev pub code_of : ℤ → ℕ
code_of (pos v) = 2 * v
code_of (negsuc v) = 2 * v + 3

-- the code of a literal over the variables 1 to vars
abbrev pub IsCode : ℕ → ℕ → Type 0
IsCode vars code = (2 ≤ code) × (code ≤ 2 * vars + 1)
