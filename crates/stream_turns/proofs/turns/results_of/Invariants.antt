use Rattle.std.proofs.Common.{◌≡◌, ◌+◌, ◌++◌, map, vec_len, vec_capacity}
use Rattle.std.specs.Vec.Iter.{into_iter_items, into_iter_len}
use Rattle.stream_turns.specs.internal.Turns.{AreFinished, HaveReports}
use Rattle.stream_turns.proofs.turns.results_of.Given as goal

abbrev pub invariant-loop-worker : goal.invariant-loop-worker
invariant-loop-worker g l = record {
  whole : l.yielded ++ into_iter_items l.worker-iterator ≡ l.fn.workers.items;
  finished : AreFinished (into_iter_items l.worker-iterator);
  reports : HaveReports l.yielded l.reports.items;
  readers : l.readers.items ≡ map (λ w. w.reader) l.yielded;
  dropped : l.dropped.items ≡ map (λ w. w.checker.dropped) l.yielded;
  report_count : vec_len l.reports + into_iter_len l.worker-iterator ≡ vec_len l.fn.workers;
  reader_count : vec_len l.readers + into_iter_len l.worker-iterator ≡ vec_len l.fn.workers;
  dropped_count : vec_len l.dropped + into_iter_len l.worker-iterator ≡ vec_len l.fn.workers;
  report_room : vec_capacity l.reports ≡ vec_capacity l.initial.reports;
  reader_room : vec_capacity l.readers ≡ vec_capacity l.initial.readers;
  dropped_room : vec_capacity l.dropped ≡ vec_capacity l.initial.dropped;
}
