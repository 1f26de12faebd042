-- Lemmas about what a sink took.
use Rattle.std.proofs.Common.{◌++◌, ◌∙◌, Bool, List, Option, ap, false, sym, true, ℕ}
use Rattle.std.proofs.KnownBytes.{Appends-trans}
use Rattle.std.proofs.lemmas.List.{append_assoc}
use Rattle.std.specs.Io.KnownBytes.{Appends}
use Rattle.command.specs.Commands.{TakesUnlessFailed}

-- a text was written before what the sink took
pub took_after_text : (failed : Bool) (a b c : Option (List ℕ)) (first text : List ℕ)
    → Appends a b first → TakesUnlessFailed failed b c text
    → TakesUnlessFailed failed a c (first ++ text)
took_after_text false a b c first text one took = Appends-trans a b c first text one took
took_after_text true a b c first text one took = (
  first ++ took.0,
  took.1,
  ap (λ t. first ++ t) took.2 ∙ sym (append_assoc first took.0 took.1),
  Appends-trans a b c first took.0 one took.3,
)
