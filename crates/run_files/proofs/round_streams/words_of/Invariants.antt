use Rattle.std.proofs.Common.{◌≡◌, ◌≤◌, length, map, string_bytes, take, vec_capacity, vec_len}
use Rattle.clap.specs.Walk.{texts}
use Rattle.run_files.proofs.round_streams.words_of.Given as goal

abbrev pub invariant-loop-argument : goal.invariant-loop-argument
invariant-loop-argument l =
    record {
      read : texts l.words.items ≡ map string_bytes (take l.argument-index l.fn.arguments);
      count : vec_len l.words ≡ l.argument-index;
      room : length l.fn.arguments ≤ vec_capacity l.words;
    }
