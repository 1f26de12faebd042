use Rattle.command_tests.proofs.AgreeLemmas.{first_lines_agree}
use Rattle.command_tests.proofs.Views.{content, has_failed, left, reading}
use Rattle.command_tests.proofs.outcomes.first_lines_agree.Goals as goal

pub returns : goal.returns
returns c adds others_add =
    first_lines_agree left content reading has_failed c.printed_is_read.ensures c.one_formula.ensures c.no_bytes_may_become_a_line.ensures
    _ _ c.outcomes_agree.ensures adds others_add
