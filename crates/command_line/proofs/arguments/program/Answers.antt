use Rattle.std.proofs.Common.{◌∙◌, ap₂}
use Rattle.std.proofs.lemmas.Result.{IfOk-weaker}
use Rattle.clap.specs.Words.{with_rule}
use Rattle.command_line.proofs.arguments.program.Goals as goal

pub returns : goal.returns
returns c =
    let one = c.in_ok-command-2.ensures.shape c.file.ensures.local ∙ ap₂ with_rule c.in_ok-command.ensures c.file.ensures.rule in
    let two = c.in_ok-command-3.ensures.shape c.file-2.ensures.local ∙ ap₂ with_rule one c.file-2.ensures.rule in
    let rounds = c.in_ok-command-4.ensures.shape c.file-3.ensures.local ∙ ap₂ with_rule two c.file-3.ensures.rule in
    let three = c.in_ok-command-5.ensures.shape c.flag.ensures.local ∙ ap₂ with_rule rounds c.flag.ensures.rule in
    let four = c.in_ok-command-6.ensures.shape c.flag-2.ensures.local ∙ ap₂ with_rule three c.flag-2.ensures.rule in
    let five = c.in_ok-command-7.ensures.shape c.formula.ensures.local ∙ ap₂ with_rule four c.formula.ensures.rule in
    IfOk-weaker c.arg-7.result _ _
    (λ r added. added.shape c.stream.ensures.local ∙ ap₂ with_rule five c.stream.ensures.rule) c.arg-7.ensures
