-- What a read gives of known bytes.
use Rattle.std.proofs.Common.{◌≡◌, ◌++◌, ℕ, List, take, Option, None, Some, Result, Ok, Err, IfOk, subst}
use Rattle.std.specs.Prelude.{option_map}
use Rattle.std.specs.Result.{result_ok}
use Rattle.std.specs.Io.KnownBytes.{Consumes}
use Rattle.lrup_text.specs.Reads.{GivesLeft}
use Rattle.lrup_text.specs.declared.device.ReadFault.{ReadFault}

begins : (bytes piece : List ℕ) (after : Option (List ℕ)) → Consumes (Some bytes) after piece → (rest : List ℕ) × (bytes ≡ piece ++ rest)
begins bytes piece None consumes = absurd consumes
begins bytes piece (Some rest) consumes = (rest, consumes)

pub next_given : (before after : Option (List ℕ)) (bytes buffer : List ℕ) (room : ℕ) (result : Result ℕ ReadFault) → before ≡ Some bytes
    → GivesLeft before room (option_map (λ count. take count buffer) (result_ok result)) after
    → IfOk result (λ count. (rest : List ℕ) × (bytes ≡ take count buffer ++ rest))
next_given before after bytes buffer room (Ok count) known gives =
    begins bytes (take count buffer) after (subst (λ (b : Option (List ℕ)). Consumes b after (take count buffer)) known gives.0)
next_given before after bytes buffer room (Err fault) known gives = tt
