use Rattle.std.proofs.Common.{◌≡◌, ◌+◌, ◌-◌, ◌∙◌, None, ap, subst, take, drop}
use Rattle.stream_check.specs.Readings.{readers_view}
use Rattle.stream_turns.specs.internal.Working.{WorkerValue, WorkerStep}
use Rattle.stream_turns.proofs.WorkingLemmas.{worker_of, worker_fed, unread_split}
use Rattle.stream_turns.proofs.worker.Worker.feed.Goals as goal

pub returns-clause-holds : goal.returns-clause-holds
returns-clause-holds g c =
    let w = c.self.inside in
    let p = g.M.ClauseMap.caller_view c.args.map.now in
    let q = g.M.ClauseMap.caller_view c.feed-progress.new.map in
    let used = c.feed-progress.result.used in
    let left = c.feed-progress.ensures.left in
    let going : w.checker.ending ≡ None = ap (λ (v : WorkerValue g.row.R.Denot). v.checker.ending) c.self.view_is ∙ c.requires.going in
    let rest = take (w.to - (w.from + used)) (drop (w.from + used) w.buffer.items) in
    let split = unread_split w.buffer.items c.deref.result.now w.from w.to used c.deref.ensures.value c.feed-progress.ensures.used in
    let view = readers_view g.R.Source in
    let fed = worker_fed view w.reader _ _ rest w.checker c.feed-progress.new.self p.room q.room left.0
    (c.self.invariant.running going) split going c.feed-progress.ensures.params left.3 c.feed-progress.ensures.memory in (
      left.0,
      left.1,
      left.2,
      subst (λ (v : WorkerValue g.row.R.Denot). WorkerStep view v p.room left.0 (worker_of w.reader rest c.feed-progress.new.self) q.room)
          c.self.view_is fed,
    )
