use Rattle.std.proofs.Common.{◌≡◌, map, string_bytes}
use Rattle.run_files.specs.Paths.{stream_paths}
use Rattle.run_files.proofs.round_streams.stream_paths.Given as goal

abbrev pub invariant-loop-before : goal.invariant-loop-before
invariant-loop-before l = map string_bytes l.paths.items ≡ stream_paths l.folder l.fn.number l.before
