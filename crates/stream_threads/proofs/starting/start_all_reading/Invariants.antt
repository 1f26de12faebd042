use Rattle.std.proofs.Common.{◌≡◌, ◌+◌, ◌++◌, vec_capacity, vec_len}
use Rattle.std.specs.List.{AllByRecursion}
use Rattle.std.specs.Vec.Iter.{into_iter_items, into_iter_len}
use Rattle.stream_threads.proofs.starting.start_all_reading.Given as goal

abbrev pub invariant-loop-half : goal.invariant-loop-half
invariant-loop-half g l = record {
  next : (goal.iterator-loop-half g).can_next l.half-iterator × (goal.iterator-loop-half g).is_finite l.half-iterator;
  whole : l.started.items ++ into_iter_items l.half-iterator ≡ l.fn.halves.items;
  signal : AllByRecursion (λ half. half.signal ≡ l.signal.id) (into_iter_items l.half-iterator);
  count : vec_len l.started + into_iter_len l.half-iterator ≡ vec_len l.fn.halves;
  room : vec_capacity l.started ≡ vec_capacity l.initial.started;
}
