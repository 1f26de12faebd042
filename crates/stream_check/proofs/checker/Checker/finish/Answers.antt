use Rattle.stream_check.proofs.checker.Checker.finish.Goals.{in-Ended, in-Failed}
use Rattle.stream_check.proofs.checker.Checker.finish.Goals as goal

pub returns-then-not-was_finished-clause-reports : goal.returns-then-not-was_finished-clause-reports
returns-then-not-was_finished-clause-reports g c = elim c.match-end.branch [
  | in-Ended w ↦ rw (w.in-Ended.is, w.self-is) w.end.ensures.reports
  | in-Failed w ↦ rw (w.in-Failed.is, w.self-is) w.read_failed.ensures.reports
]

pub returns-else-not-was_finished-clause-reports : goal.returns-else-not-was_finished-clause-reports
returns-else-not-was_finished-clause-reports g c = elim c.match-end.branch [
  | in-Ended w ↦ rw (w.in-Ended.is, w.self-is) w.end.ensures.reports
  | in-Failed w ↦ rw (w.in-Failed.is, w.self-is) w.read_failed.ensures.reports
]
