use Rattle.std.proofs.Common.{◌≡◌, ◌+◌, ◌++◌, map, vec_capacity, vec_len}
use Rattle.std.specs.List.{AllByRecursion}
use Rattle.std.specs.Vec.Iter.{into_iter_items, into_iter_len}
use Rattle.stream_threads.specs.Jobs.{CanBegin}
use Rattle.stream_threads.specs.internal.Workers.{started_with}
use Rattle.stream_threads.proofs.starting.start_all_checking.Given as goal

abbrev pub invariant-loop-jobs : goal.invariant-loop-jobs
invariant-loop-jobs g l = record {
  next : (goal.iterator-loop-jobs g).can_next l.jobs-iterator × (goal.iterator-loop-jobs g).is_finite l.jobs-iterator;
  whole : l.yielded ++ into_iter_items l.jobs-iterator ≡ l.fn.all.items;
  started : l.halves.items ≡ map (started_with l.signal.id) l.yielded;
  begin : AllByRecursion (CanBegin l.store) (into_iter_items l.jobs-iterator);
  count : vec_len l.halves + into_iter_len l.jobs-iterator ≡ vec_len l.fn.all;
  room : vec_capacity l.halves ≡ vec_capacity l.initial.halves;
}
