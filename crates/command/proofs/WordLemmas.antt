-- Words that are read one after the other.
use Rattle.std.proofs.Common.{◌∙◌, ◌≡◌, List, ap}

-- the words have the arguments' texts, with both lists given by equations
pub read_all : {W A T : Type 0} (word_texts : List W → T) (texts : List A → T) (words held : List W) (arguments kept rest : List A)
    → words ≡ held → word_texts held ≡ texts arguments → arguments ≡ kept → kept ≡ rest → word_texts words ≡ texts rest
read_all word_texts texts words held arguments kept rest lent read given is = ap word_texts lent ∙ read ∙ ap texts (given ∙ is)
