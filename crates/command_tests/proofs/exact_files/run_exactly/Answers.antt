use Rattle.command_tests.proofs.ExactLemmas.{exactly_emptied, exactly_in_rounds, exactly_kept, exactly_unsure}
use Rattle.command_tests.proofs.Views.{content, has_failed, left, reading}
use Rattle.command_tests.proofs.exact_files.run_exactly.Goals as goal

pub returns-clause-kept : goal.returns-clause-kept
returns-clause-kept g c = exactly_kept left content reading has_failed _ _ _ _ c.command.ensures.saved

pub returns-clause-emptied : goal.returns-clause-emptied
returns-clause-emptied g c = exactly_emptied left content reading has_failed _ _ _ _ c.command.ensures.none_saved

pub returns-clause-unsure : goal.returns-clause-unsure
returns-clause-unsure g c = exactly_unsure left content reading has_failed _ _ _ _ _ _ c.command.ensures.ends

pub returns-clause-rounds : goal.returns-clause-rounds
returns-clause-rounds g c = exactly_in_rounds left content reading has_failed _ _ _ _ _ _ c.command.ensures.saved_rounds
