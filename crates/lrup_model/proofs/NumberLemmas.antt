-- Lemmas about numbers.
use Rattle.std.proofs.Common.{ℕ, zero, suc, ◌*◌, ◌<◌, ◌≤◌, arith}

-- a positive multiple of a number is at least that number
pub le_multiple : (s x : ℕ) → 0 < s → x ≤ s * x
le_multiple zero x h = absurd (omega (arith, h))
le_multiple (suc s) x h = grind arith
