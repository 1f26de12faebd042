use Rattle.std.proofs.Common.{◌≡◌, ◌+◌, ◌-◌, ◌<◌, ◌≤◌, ℕ, [], Some, slice_get, vec_len}
use Rattle.std.specs.Vec.{vec_capacity}
use Rattle.idwords.specs.Spelling.{first_place}
use Rattle.idwords.specs.internal.Rule.{opening_threads}
use Rattle.idwords.specs.Seats.{opening_seat}
use Rattle.idwords.proofs.row.seats_of.Given as goal

abbrev pub invariant-loop-s : goal.invariant-loop-s
invariant-loop-s l = record {
  table : l.token.table_id ≡ l.table.shared.table_id;
  threads : l.token.me ≡ (opening_threads l.table.shared.key.formula.value l.layout (l._s + 1) (l.layout.streams - l._s), []);
  top : l.top ≡ first_place l.layout (l._s + 1);
  count : vec_len l.seats ≡ l._s;
  room : l.layout.streams ≤ vec_capacity l.seats;
  seats : (k : ℕ) → k < l._s
      → slice_get l.seats.items k ≡ Some (opening_seat l.table.shared.table_id l.table.shared.key.formula.value l.layout (k + 1));
}
