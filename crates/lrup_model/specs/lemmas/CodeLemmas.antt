-- The laws of literals and their codes.
use Rattle.std.proofs.Common.{◌≡◌, ◌⊎◌, inl, inr, ℕ, zero, suc, ◌+◌, ◌*◌, ◌/◌, ◌%◌, ◌<◌, ◌≤◌, ℤ, pos, negsuc, neg_ℤ, ap, ◌∙◌, arith, eqb, eq-eqb}
use Rattle.std.proofs.lemmas.Bool.{cond-true, cond-false, ne_eqb, cases_eq}
use Rattle.lrup_model.specs.Literal.{IsLiteral, code_of, IsCode}
use Rattle.lrup_model.specs.internal.Codes.{literal_of}

-- different literals have different codes
pub code_of-injective : (a b : ℤ) → code_of a ≡ code_of b → a ≡ b
code_of-injective (pos m) (pos n) e = let s : m ≡ n = omega (arith, e) in ap pos s
code_of-injective (pos m) (negsuc n) e = absurd (omega (arith, e))
code_of-injective (negsuc m) (pos n) e = absurd (omega (arith, e))
code_of-injective (negsuc m) (negsuc n) e = let s : m ≡ n = omega (arith, e) in ap negsuc s

-- a literal over the variables 1 to vars has a code in the range of `IsCode`
pub IsCode-code_of : (vars : ℕ) (l : ℤ) → IsLiteral vars l → IsCode vars (code_of l)
IsCode-code_of vars (pos n) h = (omega (arith, h.0), omega (arith, h.1))
IsCode-code_of vars (negsuc n) h = (omega arith, omega (arith, h.1))

-- each code is even or odd
pub parity : (code : ℕ) → (code % 2 ≡ 0) ⊎ (code % 2 ≡ 1)
parity code = elim (cases_eq (code % 2) 0) [ inl e ↦ inl e | inr ne ↦ inr (omega (arith, ne)) ]

pub literal_of-even : (code : ℕ) → code % 2 ≡ 0 → literal_of code ≡ pos (code / 2)
literal_of-even code e = cond-true (eqb (code % 2) 0) (pos (code / 2)) (neg_ℤ (pos (code / 2))) (eq-eqb (code % 2) 0 e)

pub literal_of-odd : (code : ℕ) → code % 2 ≡ 1 → literal_of code ≡ neg_ℤ (pos (code / 2))
literal_of-odd code e =
    cond-false (eqb (code % 2) 0) (pos (code / 2)) (neg_ℤ (pos (code / 2))) (ne_eqb (code % 2) 0 (λ even. omega (arith, e, even)))

code_of-neg_ℤ_pos : (v : ℕ) → 0 < v → code_of (neg_ℤ (pos v)) ≡ 2 * v + 1
code_of-neg_ℤ_pos zero h = absurd (omega (arith, h))
code_of-neg_ℤ_pos (suc v) h = omega arith

-- going from a code to its literal and back gives the same code
pub code_of-literal_of : (code : ℕ) → 2 ≤ code → code_of (literal_of code) ≡ code
code_of-literal_of code h =
    elim (parity code) [
      | inl e ↦ ap code_of (literal_of-even code e) ∙ omega (arith, e)
      | inr e ↦ ap code_of (literal_of-odd code e) ∙ (code_of-neg_ℤ_pos (code / 2) (omega (arith, h)) ∙ omega (arith, e))
    ]
