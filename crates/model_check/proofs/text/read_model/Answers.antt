use Rattle.std.proofs.Common.{◌≡◌, ◌∙◌, true, Ok, ap, sym, subst}
use Rattle.std.proofs.lemmas.Bool.{not-false}
use Rattle.model_check.specs.ModelText.{IsModelText}
use Rattle.model_check.specs.Reading.{Assigned, all_lines, at_end}
use Rattle.model_check.proofs.ReadingLemmas.{text_is_read, end_is}
use Rattle.model_check.proofs.text.read_model.Goals as goal

pub returns-clause-model : goal.returns-clause-model
returns-clause-model c =
    let read = c.in_ok-reader.reader in
    let ended : read.ended ≡ true = ap (λ (x : Assigned). x.ended) (sym c.reader.view_is)
    ∙ not-false c.reader.inside.ended c.if-not-reader.false in
    let literals : read.literals ≡ c.reader.inside.literals.items = ap (λ (x : Assigned). x.literals) (sym c.reader.view_is) in
    let whole : all_lines c.args.vars c.args.bytes.now ≡ Ok read = c.in_ok-reader.ensures.ok in
    subst (IsModelText c.args.vars c.args.bytes.now) literals
    ((text_is_read c.args.vars c.args.bytes.now read.literals).1 (ap at_end whole ∙ end_is read ended))
