use Rattle.command_tests.proofs.AskLemmas.{asked_alone}
use Rattle.command_tests.proofs.Views.{content, has_failed, left, reading}
use Rattle.command_tests.proofs.outcomes.two_rounds_are_valid.Goals as goal

pub returns : goal.returns
returns c files =
    asked_alone left content reading has_failed _ files c.printed_is_read.ensures c.one_formula.ensures c.one_command_line.ensures
    c.a_stream_is_cut_in_one_way.ensures c.no_bytes_may_become_a_line.ensures
