use Rattle.std.proofs.Common.{◌≡◌, ◌+◌, ◌++◌, false, map, vec_len, vec_capacity}
use Rattle.std.specs.Iterator.Adapters.{zip_first, zip_second}
use Rattle.std.specs.List.{AllByRecursion}
use Rattle.std.specs.Vec.Iter.{into_iter_items, into_iter_len}
use Rattle.stream_threads.specs.Jobs.{AreJobs}
use Rattle.stream_threads.proofs.stream_jobs.jobs_of.Given as goal

abbrev pub invariant-loop-reader : goal.invariant-loop-reader
invariant-loop-reader g l =
    let first = zip_first (zip_first l.reader-iterator) in
    let second = zip_second (zip_first l.reader-iterator) in
    let third = zip_second l.reader-iterator in
    record {
      running : AllByRecursion (λ r. g.R.Source.has_failed r ≡ false) (into_iter_items first);
      jobs : AreJobs l.run_params 1 (map (λ x. x.0.0) l.yielded) (map (λ x. x.1) l.yielded) l.all.items;
      readers : map (λ x. x.0.0) l.yielded ++ into_iter_items first ≡ l.fn.readers.items;
      passes : map (λ x. x.1) l.yielded ++ into_iter_items third ≡ l.fn.passes.items;
      count : vec_len l.all + into_iter_len first ≡ vec_len l.fn.readers;
      gates : into_iter_len second ≡ into_iter_len first;
      others : into_iter_len third ≡ into_iter_len first;
      room : vec_capacity l.all ≡ vec_capacity l.initial.all;
    }
