use Rattle.stream_threads.proofs.pair.jobs.Goals as goal

pub returns-clause-checker : goal.returns-clause-checker
returns-clause-checker g c = c.in_ok-checking.ensures.checker
