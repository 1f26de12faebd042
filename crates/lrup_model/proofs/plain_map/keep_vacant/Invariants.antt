use Rattle.std.proofs.Common.{◌≡◌, ◌++◌, replicate, ◌+◌, vec_len}
use Rattle.std.specs.Vec.{vec_capacity}
use Rattle.lrup_model.specs.declared.plain_map.Entry.TheVariants.{Vacant}
use Rattle.lrup_model.proofs.plain_map.keep_vacant.Given as goal

abbrev pub invariant-loop-i : goal.invariant-loop-i
invariant-loop-i l = record {
  items : l.entries.items ≡ l.fn.entries.items ++ replicate l._i Vacant;
  len : vec_len l.entries ≡ vec_len l.fn.entries + l._i;
  capacity : vec_capacity l.entries ≡ vec_capacity l.fn.entries;
}
