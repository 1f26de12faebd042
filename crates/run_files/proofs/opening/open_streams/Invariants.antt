use Rattle.std.proofs.Common.{◌≡◌, ◌≤◌, false, length, map, take, vec_capacity, vec_len}
use Rattle.std.specs.List.{AllByRecursion}
use Rattle.clap.specs.Walk.{texts}
use Rattle.run_files.specs.Files.{AreOpened}
use Rattle.run_files.proofs.opening.open_streams.Given as goal

abbrev pub invariant-loop-path : goal.invariant-loop-path
invariant-loop-path g l =
    record {
      left : map g.F.Input.Source.left l.readers.items ≡ map (g.F.Files.contents l.fn.files) (take l.path-index (texts l.fn.paths));
      opened : AreOpened g.F.Files.opens l.fn.files (take l.path-index (texts l.fn.paths)) l.readers.items l.files;
      running : AllByRecursion (λ r. g.F.Input.Source.has_failed r ≡ false) l.readers.items;
      count : vec_len l.readers ≡ l.path-index;
      room : length l.fn.paths ≤ vec_capacity l.readers;
      stays : g.F.Files.contents l.files ≡ g.F.Files.contents l.fn.files;
    }
