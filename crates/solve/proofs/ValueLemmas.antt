-- Lemmas about the values of a model, as they are printed.
use Rattle.std.proofs.Common.{◌+◌, ◌++◌, ◌<◌, ◌≤◌, ◌∙◌, ◌∷◌, ◌≡◌, List, [], add-one, ap, append_assoc, drop, drop-cons}
use Rattle.std.proofs.Common.{get_or, length, pos, suc, sym, ℕ, ℤ}
use Rattle.std.specs.Fmt.{signed_decimal}
use Rattle.std.specs.Prelude.{codes}
use Rattle.std.proofs.lemmas.List.{drop_all}
use Rattle.solve.specs.Printing.{room_after, value_front, values_text}

-- the literals from a place on are the one at the place, and those after it
drop_read : (all : List ℤ) (i : ℕ) (literal : ℤ) → i < length all → literal ≡ get_or all i literal
    → drop i all ≡ literal ∷ drop (i + 1) all
drop_read all i literal inside is =
    rw add-one (drop-cons all i literal inside ∙ ap (λ (l : ℤ). l ∷ drop (suc i) all) (sym is))

-- one more value is printed
pub next_value : (all : List ℤ) (i : ℕ) (literal value : ℤ) (room next : ℕ) (whole before : List ℕ) → i < length all
    → literal ≡ get_or all i literal → value ≡ literal → next ≡ room_after room
    → whole ≡ before ++ values_text (drop i all ++ pos 0 ∷ []) room
    → whole ≡ (before ++ (value_front room ++ signed_decimal value)) ++ values_text (drop (i + 1) all ++ pos 0 ∷ []) next
next_value all i literal value room next whole before inside is same after parts =
    let rest = values_text (drop (i + 1) all ++ pos 0 ∷ []) (room_after room) in
    parts ∙ ap (λ (ls : List ℤ). before ++ values_text (ls ++ pos 0 ∷ []) room) (drop_read all i literal inside is)
    ∙ ap (λ (l : ℤ). before ++ ((value_front room ++ signed_decimal l) ++ rest)) (sym same)
    ∙ ap (λ (n : ℕ). before ++ ((value_front room ++ signed_decimal value) ++ values_text (drop (i + 1) all ++ pos 0 ∷ []) n)) (sym after)
    ∙ sym (append_assoc before (value_front room ++ signed_decimal value) (values_text (drop (i + 1) all ++ pos 0 ∷ []) next))

-- the 0 is printed last
pub last_value : (all : List ℤ) (i : ℕ) (room : ℕ) (whole before : List ℕ) → length all ≤ i
    → whole ≡ before ++ values_text (drop i all ++ pos 0 ∷ []) room
    → whole ≡ (before ++ (value_front room ++ signed_decimal (pos 0))) ++ codes "\n"
last_value all i room whole before past parts =
    parts ∙ ap (λ (ls : List ℤ). before ++ values_text (ls ++ pos 0 ∷ []) room) (drop_all i all past)
    ∙ sym (append_assoc before (value_front room ++ signed_decimal (pos 0)) (codes "\n"))
