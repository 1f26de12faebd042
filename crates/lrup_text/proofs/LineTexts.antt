-- A line's text, as the parts that are written one after the other.
use Rattle.std.proofs.Common.{◌≡◌, ℕ, ℤ, List, [], ◌∷◌, ◌++◌, map, sym, ◌∙◌, ap}
use Rattle.std.specs.Fmt.{decimal, signed_decimal}
use Rattle.std.proofs.lemmas.List.{append_assoc}
use Rattle.lrup_text.specs.Writing.{space}
use Rattle.lrup_text.specs.internal.ByteNames.{zero_digit, letter_d, letter_i, line_feed}
use Rattle.lrup_text.specs.Grammar.{list_text}
use Rattle.lrup_text.specs.Lines.{Addition, Deletion, Import, line_text}
use Rattle.lrup_text.specs.internal.Reading.{literals_text, numbers_text}
use Rattle.lrup_text.proofs.Bytes.{words_end, list_words}

pub addition_text : (id : ℕ) (lits : List ℤ) (hints : List ℕ) → line_text (Addition id lits hints)
    ≡ (((decimal id ++ space ∷ []) ++ literals_text lits) ++ zero_digit ∷ space ∷ [])
    ++ (numbers_text hints ++ zero_digit ∷ line_feed ∷ [])
addition_text id lits hints =
    let list = numbers_text hints ++ zero_digit ∷ line_feed ∷ [] in
    sym (append_assoc ((decimal id ++ space ∷ []) ++ literals_text lits) (zero_digit ∷ space ∷ []) list
    ∙ append_assoc (decimal id ++ space ∷ []) (literals_text lits) (zero_digit ∷ space ∷ list)
    ∙ append_assoc (decimal id) (space ∷ []) (literals_text lits ++ zero_digit ∷ space ∷ list)
    ∙ ap (λ t. decimal id ++ space ∷ t) (ap (λ t. literals_text lits ++ zero_digit ∷ t) (list_words decimal hints)
    ∙ words_end signed_decimal lits (list_text (map decimal hints))))

pub deletion_text : (lead : ℕ) (ids : List ℕ) → line_text (Deletion lead ids)
    ≡ ((decimal lead ++ space ∷ []) ++ letter_d ∷ space ∷ []) ++ (numbers_text ids ++ zero_digit ∷ line_feed ∷ [])
deletion_text lead ids =
    let list = numbers_text ids ++ zero_digit ∷ line_feed ∷ [] in
    sym (append_assoc (decimal lead ++ space ∷ []) (letter_d ∷ space ∷ []) list
    ∙ append_assoc (decimal lead) (space ∷ []) (letter_d ∷ space ∷ list)
    ∙ ap (λ t. decimal lead ++ space ∷ letter_d ∷ t) (list_words decimal ids))

pub import_text : (id : ℕ) (lits : List ℤ) → line_text (Import id lits)
    ≡ ((decimal id ++ space ∷ []) ++ letter_i ∷ space ∷ []) ++ (literals_text lits ++ zero_digit ∷ line_feed ∷ [])
import_text id lits =
    let list = literals_text lits ++ zero_digit ∷ line_feed ∷ [] in
    sym (append_assoc (decimal id ++ space ∷ []) (letter_i ∷ space ∷ []) list
    ∙ append_assoc (decimal id) (space ∷ []) (letter_i ∷ space ∷ list)
    ∙ ap (λ t. decimal id ++ space ∷ letter_i ∷ t) (list_words signed_decimal lits))
