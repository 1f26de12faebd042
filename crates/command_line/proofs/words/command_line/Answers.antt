use Rattle.std.proofs.Common.{◌≤◌, ℕ, arith, codes, subst, sym}
use Rattle.clap.specs.Words.{found_of, rows_of}
use Rattle.command_line.proofs.ReadLemmas.{number_within, same_length, up_to_is_number}
use Rattle.command_line.proofs.words.command_line.Goals as goal

pub option_number-requires : goal.option_number-requires
option_number-requires c = up_to_is_number 1000000 (codes "tries") (rows_of (found_of c.args.matches.now)) c.requires.tries

pub option_number-requires-2 : goal.option_number-requires-2
option_number-requires-2 c = up_to_is_number 268435456 (codes "lines") (rows_of (found_of c.args.matches.now)) c.requires.lines

pub option_number-requires-3 : goal.option_number-requires-3
option_number-requires-3 c = up_to_is_number 268435456 (codes "room") (rows_of (found_of c.args.matches.now)) c.requires.room

pub returns-clause-ok : goal.returns-clause-ok
returns-clause-ok c =
    let rows = rows_of (found_of c.args.matches.now) in
    let tries = number_within 1000000 (codes "tries") 1000 rows c.requires.tries (omega arith) in
    let lines = number_within 268435456 (codes "lines") 65536 rows c.requires.lines (omega arith) in
    let room = number_within 268435456 (codes "room") 1048576 rows c.requires.room (omega arith) in
    let streams = c.in_ok-streams_of.ensures in
    record {
      tries = c.option_number.ensures;
      few_tries = subst (λ (n : ℕ). n ≤ 1000000) (sym c.option_number.ensures) tries;
      lines = c.option_number-2.ensures;
      few_lines = subst (λ (n : ℕ). n ≤ 268435456) (sym c.option_number-2.ensures) lines;
      room = c.option_number-3.ensures;
      small_room = subst (λ (n : ℕ). n ≤ 268435456) (sym c.option_number-3.ensures) room;
      assume = c.file_of.ensures;
      checkpoint = c.in-Some.ensures.checkpoint;
      rounds = c.in-Some.ensures.rounds;
      serial = c.is_set.ensures;
      watch = c.is_set-2.ensures;
      formula = c.formula_of.ensures;
      streams = streams;
      one = same_length c.requires.streams.1 streams c.requires.streams.2;
    }
