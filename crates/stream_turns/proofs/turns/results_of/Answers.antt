use Rattle.std.proofs.Common.{◌∷◌, ◌∙◌, List, map, ap, subst, arith}
use Rattle.std.specs.Vec.Iter.{into_iter_items}
use Rattle.lrup_model.specs.lemmas.ListLemmas.{whole_end}
use Rattle.stream_check.specs.Readings.{readers_view}
use Rattle.stream_turns.specs.internal.Turns.{AreFinished, HaveReports}
use Rattle.stream_turns.specs.internal.Working.{WorkerValue}
use Rattle.stream_turns.proofs.JoiningLemmas.{pushed_more, whole_more}
use Rattle.stream_turns.proofs.TurnsLemmas.{reports_pushed}
use Rattle.stream_turns.proofs.turns.results_of.Goals as goal

pub loop-worker-preserved : goal.loop-worker-preserved
loop-worker-preserved g c =
    let now = c.loop-worker in
    let w = c.in-Some.worker in
    let parts = c.into_parts-reader in
    let steps = c.in-Some.ensures.steps in
    let finished : AreFinished (w ∷ into_iter_items c.next.new.self) = subst AreFinished steps.0 now.invariant.finished in
    let reader = c.push_reserved-in-loop-worker.ensures in
    let pushed = c.push_reserved-in-loop-worker-2.ensures in
    record {
      whole =
          whole_more now.yielded (into_iter_items now.worker-iterator) (into_iter_items c.next.new.self) _ w steps.0 now.invariant.whole;
      finished = finished.1;
      reports = reports_pushed (readers_view g.R.Source) now.yielded now.reports.items
          c.push_reserved.new.self.items w parts.result.0 c.push_reserved.ensures.items now.invariant.reports finished.0
          parts.ensures.report;
      readers = pushed_more (λ (v : WorkerValue g.row.R.Denot). v.reader) now.readers.items c.push_reserved-in-loop-worker.new.self.items
          now.yielded parts.result.1 w
          reader.items now.invariant.readers parts.ensures.reader;
      dropped = pushed_more (λ (v : WorkerValue g.row.R.Denot). v.checker.dropped) now.dropped.items
          c.push_reserved-in-loop-worker-2.new.self.items now.yielded parts.result.2 w pushed.items now.invariant.dropped
          parts.ensures.dropped;
      report_count = omega (arith, c.push_reserved.ensures.len, steps.1, now.invariant.report_count);
      reader_count = omega (arith, reader.len, steps.1, now.invariant.reader_count);
      dropped_count = omega (arith, pushed.len, steps.1, now.invariant.dropped_count);
      report_room = omega (arith, c.push_reserved.ensures.capacity, now.invariant.report_room);
      reader_room = omega (arith, reader.capacity, now.invariant.reader_room);
      dropped_room = omega (arith, pushed.capacity, now.invariant.dropped_room);
    }

pub returns-clause-reports : goal.returns-clause-reports
returns-clause-reports g c =
    let now = c.loop-worker in
    subst (λ (ws : List (WorkerValue g.row.R.Denot)). HaveReports ws now.reports.items)
    (whole_end now.yielded c.args.workers.items now.worker-iterator c.next.new.self c.in-None.ensures.steps now.invariant.whole)
    now.invariant.reports

pub returns-clause-readers : goal.returns-clause-readers
returns-clause-readers g c =
    let now = c.loop-worker in
    now.invariant.readers ∙ ap (map (λ (w : WorkerValue g.row.R.Denot). w.reader))
    (whole_end now.yielded c.args.workers.items now.worker-iterator c.next.new.self c.in-None.ensures.steps now.invariant.whole)

pub returns-clause-dropped : goal.returns-clause-dropped
returns-clause-dropped g c =
    let now = c.loop-worker in
    now.invariant.dropped ∙ ap (map (λ (w : WorkerValue g.row.R.Denot). w.checker.dropped))
    (whole_end now.yielded c.args.workers.items now.worker-iterator c.next.new.self c.in-None.ensures.steps now.invariant.whole)
