-- The law of the answers' texts, which a function of `laws.rt` proves.
use Rattle.std.specs.Prelude.{◌≡◌, ◌↔◌, ℕ, ℤ, List, Ok}
use Rattle.model_check.specs.ModelText.{IsModelText}
use Rattle.model_check.specs.Reading.{model_in}

-- bytes are an answer with these literals exactly if reading them token by token gives the literals
abbrev pub ModelTextIsRead : Type 0
ModelTextIsRead = (vars : ℕ) (bytes : List ℕ) (literals : List ℤ) → IsModelText vars bytes literals
    ↔ (model_in vars bytes ≡ Ok literals)
