use Rattle.std.proofs.Common.{◌≡◌, ◌+◌, ◌++◌, false, map, vec_len, vec_capacity}
use Rattle.std.specs.Iterator.Adapters.{zip_first, zip_second}
use Rattle.std.specs.List.{AllByRecursion}
use Rattle.std.specs.Vec.Iter.{into_iter_items, into_iter_len}
use Rattle.stream_check.specs.Readings.{readers_view}
use Rattle.stream_turns.specs.internal.Turns.{AreStarted}
use Rattle.stream_turns.proofs.turns.workers_of.Given as goal

abbrev pub invariant-loop-reader : goal.invariant-loop-reader
invariant-loop-reader g l =
    let rest = zip_first l.reader-iterator in
    record {
      running : AllByRecursion (λ r. g.R.Source.has_failed r ≡ false) (into_iter_items rest);
      started : AreStarted (readers_view g.R.Source) l.run_params 1
          (map (λ x. x.0) l.yielded) l.workers.items;
      readers : map (λ x. x.0) l.yielded ++ into_iter_items rest ≡ l.fn.readers.items;
      count : vec_len l.workers + into_iter_len rest ≡ vec_len l.fn.readers;
      gates : into_iter_len (zip_second l.reader-iterator) ≡ into_iter_len rest;
      room : vec_capacity l.workers ≡ vec_capacity l.initial.workers;
    }
