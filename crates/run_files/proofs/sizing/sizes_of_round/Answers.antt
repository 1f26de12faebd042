use Rattle.std.proofs.Common.{◌≡◌, ◌∙◌, subst}
use Rattle.run_files.specs.Asked.{Text}
use Rattle.run_files.specs.Files.{effects_of}
use Rattle.run_files.specs.Paths.{sizes_path}
use Rattle.run_files.specs.Causes.{IsSizesCause}
use Rattle.run_files.specs.lemmas.ResultLemmas.{if_err}
use Rattle.run_files.proofs.SizingLemmas.{sizes_cause}
use Rattle.run_files.proofs.sizing.sizes_of_round.Goals as goal

pub returns-in-Ok-Some-clause-cause : goal.returns-in-Ok-Some-clause-cause
returns-in-Ok-Some-clause-cause g c =
    let its = effects_of g.F.Files g.F.Machine g.F.Input.Source g.F.Output.Sink in
    let before = c.args.files.now in
    let after = c.open_watched_if_there.new.files in
    let source = c.in-Ok-Some.source in
    let path = sizes_path c.args.folder.now c.args.number in
    let is = c.as_str.ensures.value ∙ c.in_ok-path.ensures in
    let opens : g.F.Files.opens before c.as_str.result.now source after = rw c.in-Ok-Some.field-0-is at c.in-Ok-Some.ensures.opens in
    let left : g.F.Input.Source.left source ≡ g.F.Files.contents before c.as_str.result.now =
    rw c.in-Ok-Some.field-0-is at c.in-Ok-Some.ensures.left in
    if_err c.sizes_in.result _ (λ fault. IsSizesCause its before path fault after)
    (sizes_cause its before path source after (subst (λ (p : Text). g.F.Files.opens before p source after) is opens)
    (subst (λ (p : Text). g.F.Input.Source.left source ≡ g.F.Files.contents before p) is left))
    c.sizes_in.ensures.cause
