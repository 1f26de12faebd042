use Rattle.std.proofs.Common.{◌≡◌, ◌++◌, ◌+◌, ◌≤◌, take, vec_len}
use Rattle.std.specs.Vec.{vec_capacity}
use Rattle.lrup_model.specs.internal.PlainInside.{flat, entries_from}
use Rattle.lrup_model.proofs.plain_map.keep_clauses.Given as goal

abbrev pub invariant-loop-i : goal.invariant-loop-i
invariant-loop-i l = record {
  entries : l.entries.items ≡ l.fn.entries.items ++ entries_from 0 (take l.i l.formula.clauses);
  literals : l.literals.items ≡ flat (take l.i l.formula.clauses);
  count : vec_len l.entries ≡ vec_len l.fn.entries + l.i;
  room : vec_capacity l.entries ≡ vec_capacity l.fn.entries;
  capacity : vec_capacity l.fn.literals ≤ vec_capacity l.literals;
}
