-- Lemmas about the codes of literals.
use Rattle.std.proofs.Common.{◌≡◌, inl, inr, ℕ, ◌+◌, ◌*◌, ◌/◌, ◌%◌, pos, neg_ℤ, sym, ap, ◌∙◌, arith}
use Rattle.std.specs.Int.RustNames.{bit_xor}
use Rattle.std.specs.Int.Bits.{xor_add_and}
use Rattle.std.proofs.Math.IntN.{neg_ℤ-neg_ℤ}
use Rattle.std.proofs.lemmas.Nat.{and_mask}
use Rattle.lrup_model.specs.internal.Codes.{literal_of}
use Rattle.lrup_model.specs.lemmas.CodeLemmas.{parity, literal_of-even, literal_of-odd}

xor_one : (code : ℕ) → bit_xor code 1 + 2 * (code % 2) ≡ code + 1
xor_one code = omega (arith, xor_add_and code 1, and_mask code 1)

-- the other code of the same variable is the complement's code
pub literal_of-xor_one : (code : ℕ) → literal_of (bit_xor code 1) ≡ neg_ℤ (literal_of code)
literal_of-xor_one code =
    let other = xor_one code in
    elim (parity code) [
      | inl e ↦
          let half : bit_xor code 1 / 2 ≡ code / 2 = omega (arith, other, e) in
          literal_of-odd (bit_xor code 1) (omega (arith, other, e))
          ∙ (ap (λ v. neg_ℤ (pos v)) half ∙ ap neg_ℤ (sym (literal_of-even code e)))
      | inr e ↦
          let half : bit_xor code 1 / 2 ≡ code / 2 = omega (arith, other, e) in
          literal_of-even (bit_xor code 1) (omega (arith, other, e))
          ∙ (ap pos half ∙ (sym (neg_ℤ-neg_ℤ (pos (code / 2))) ∙ ap neg_ℤ (sym (literal_of-odd code e))))
    ]
