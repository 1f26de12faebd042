-- Words that are read one after the other.
use Rattle.std.proofs.Common.{◌++◌, ◌+◌, ◌<◌, ◌∙◌, ◌∷◌, ◌≡◌, List, [], ap, get_or, length, map, sym, take, ℕ}
use Rattle.std.proofs.lemmas.List.{map-append, take_more}

-- if the words so far have the texts of the arguments so far, this is still true with one more word
pub read_more : {W A T : Type 0} (word_text : W → T) (text : A → T) (before after : List W) (word : W) (arguments : List A) (k : ℕ) (d : A)
    → k < length arguments → after ≡ before ++ word ∷ [] → map word_text before ≡ map text (take k arguments)
    → word_text word ≡ text (get_or arguments k d) → map word_text after ≡ map text (take (k + 1) arguments)
read_more word_text text before after word arguments k d inside is read one =
    let argument = get_or arguments k d in
    let words : map word_text after ≡ map word_text before ++ word_text word ∷ [] = ap (map word_text) is
    ∙ map-append word_text before (word ∷ []) in
    let taken : map text (take (k + 1) arguments) ≡ map text (take k arguments) ++ text argument ∷ [] =
    ap (map text) (take_more arguments k d inside) ∙ map-append text (take k arguments) (argument ∷ []) in
    words ∙ ap (λ ts. ts ++ word_text word ∷ []) read ∙ ap (λ t. map text (take k arguments) ++ t ∷ []) one ∙ sym taken
