use Rattle.command_tests.proofs.outcomes.save.Goals as goal

pub returns : goal.returns
returns g c = (_, _, _, c.new-files.ensures.formula, rw c.if-status-ne3.false at c.command-status.ensures.ends)
