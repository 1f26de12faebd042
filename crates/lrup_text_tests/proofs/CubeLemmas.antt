-- A few texts, judged by the definition of a cube's text.
use Rattle.std.proofs.Common.{append_assoc, length-append, ◌≡◌, ◌<◌, ◌≤◌, ℕ, ℤ, pos, negsuc, zero, suc, List, [], ◌∷◌, ◌++◌, codes}
use Rattle.std.proofs.Common.{flat_map, length, get_or, refl, ap, inl, inr, arith}
use Rattle.std.specs.Fmt.{decimal, signed_decimal}
use Rattle.std.proofs.lemmas.Fmt.{decimal_digit, first_decimal}
use Rattle.lrup_model.specs.Clause.{Has}
use Rattle.lrup_model.specs.Cube.{CubeValue, IsCubeOf, IsCubeOver}
use Rattle.lrup_model.specs.Literal.{IsLiteral, max_variable}
use Rattle.lrup_text.specs.Cubes.{IsCubeText}

-- no positive number is printed with a leading zero, whatever follows it
count_begins : (text rest : List ℕ) (bytes : List ℕ) → 48 < get_or text 0 0 → 48 ∷ bytes ≡ text ++ rest → ⊥
count_begins [] rest bytes some e = omega (arith, some)
count_begins (b ∷ text) rest bytes some e =
    let low : 48 < b = some in
    omega (arith, low, ap (λ (x : List ℕ). get_or x 0 0) e)

number_begins : (z : ℤ) (vars : ℕ) (rest bytes : List ℕ) → vars ≤ max_variable → IsLiteral vars z
    → 48 ∷ bytes ≡ signed_decimal z ++ rest → ⊥
number_begins (pos zero) vars rest bytes few is e = omega (arith, is.0)
number_begins (pos (suc n)) vars rest bytes few is e =
    count_begins (decimal (suc n)) rest bytes (first_decimal (suc n) (omega arith) (omega (arith, few, is.1))) e
number_begins (negsuc n) vars rest bytes few is e = omega (arith, ap (λ (x : List ℕ). get_or x 0 0) e)

cube_begins : (vars : ℕ) (literals : List ℤ) → vars ≤ max_variable → IsCubeOver vars literals
    → codes "01 0\n" ≡ flat_map (λ l. signed_decimal l ++ codes " ") literals ++ codes "0\n" → ⊥
cube_begins vars [] few over e = omega (arith, ap (λ (x : List ℕ). get_or x 1 0) e)
cube_begins vars (z ∷ literals) few over e =
    number_begins z vars (codes " " ++ flat_map (λ l. signed_decimal l ++ codes " ") literals ++ codes "0\n") (codes "1 0\n") few over.0
    (simp append_assoc at e)

pub zero_in_front : (vars : ℕ) (cube : CubeValue) → vars ≤ max_variable → ¬ IsCubeText vars (codes "01 0\n") cube
zero_in_front vars cube few h = cube_begins vars h.literals few h.over h.text

-- a text of a cube ends with LF
text_ends : (text : List ℕ) → codes "1 0" ≡ text ++ codes "0\n" → ⊥
text_ends [] e = omega (arith, ap (λ (x : List ℕ). get_or x 0 0) e)
text_ends (a ∷ []) e = omega (arith, ap (λ (x : List ℕ). get_or x 1 0) e)
text_ends (a ∷ b ∷ text) e = omega (arith, simp length-append at (ap length e))

pub no_line_feed : (vars : ℕ) (cube : CubeValue) → ¬ IsCubeText vars (codes "1 0") cube
no_line_feed vars cube h = text_ends (flat_map (λ l. signed_decimal l ++ codes " ") h.literals) h.text

pub text_of_set : (cube : CubeValue) → IsCubeOf (pos 1 ∷ negsuc 1 ∷ []) cube → IsCubeText 2 (codes "-2 1 -2 0\n") cube
text_of_set cube set = record {
  literals = negsuc 1 ∷ pos 1 ∷ negsuc 1 ∷ [];
  text = let one = decimal_digit 1 (omega arith) in let two = decimal_digit 2 (omega arith) in rw (one, two) refl;
  few = omega arith;
  over = ((omega arith, omega arith), ((omega arith, omega arith), ((omega arith, omega arith), tt)));
  set = λ l. (λ h. there l ((set l).0 h), λ h. (set l).1 (back l h));
}
  where
    there : (l : ℤ) → Has (pos 1 ∷ negsuc 1 ∷ []) l → Has (negsuc 1 ∷ pos 1 ∷ negsuc 1 ∷ []) l
    there l h = inr h

    back : (l : ℤ) → Has (negsuc 1 ∷ pos 1 ∷ negsuc 1 ∷ []) l → Has (pos 1 ∷ negsuc 1 ∷ []) l
    back l (inl first) = inr (inl first)
    back l (inr other) = other
