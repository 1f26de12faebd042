use Rattle.std.proofs.Common.{◌≡◌, ◌++◌, ◌≤◌, map}
use Rattle.std.specs.List.{AllByRecursion}
use Rattle.std.specs.Vec.Iter.{into_iter_items, into_iter_len}
use Rattle.stream_check.specs.Readings.{readers_view}
use Rattle.stream_threads.specs.Jobs.{AreResults}
use Rattle.stream_threads.proofs.joining.join_all.Given as goal

abbrev pub invariant-loop-started : goal.invariant-loop-started
invariant-loop-started g l = record {
  next : (goal.iterator-loop-started g).can_next l.started-iterator × (goal.iterator-loop-started g).is_finite l.started-iterator;
  whole : l.yielded ++ into_iter_items l.started-iterator ≡ l.fn.all.items;
  signal : AllByRecursion (λ one. one.signal ≡ l.signalled.of) (into_iter_items l.started-iterator);
  found : AreResults (readers_view g.R.Source) (map (λ one. one.jobs) l.yielded) l.found;
  room : into_iter_len l.started-iterator ≤ l.found.room;
}
