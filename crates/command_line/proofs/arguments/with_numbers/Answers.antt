use Rattle.std.proofs.Common.{◌∙◌, ap₂}
use Rattle.std.proofs.lemmas.Result.{IfOk-weaker}
use Rattle.clap.specs.Words.{with_rule}
use Rattle.command_line.proofs.arguments.with_numbers.Goals as goal

pub returns : goal.returns
returns c =
    let one = c.in_ok-command.ensures.shape c.number.ensures.local ∙ ap₂ with_rule c.bare-command.ensures c.number.ensures.rule in
    let two = c.in_ok-command-2.ensures.shape c.number-2.ensures.local ∙ ap₂ with_rule one c.number-2.ensures.rule in
    IfOk-weaker c.arg-3.result _ _
    (λ r added. added.shape c.number-3.ensures.local ∙ ap₂ with_rule two c.number-3.ensures.rule) c.arg-3.ensures
