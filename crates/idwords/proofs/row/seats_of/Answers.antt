use Rattle.std.proofs.Common.{◌≡◌, ◌<◌, ◌+◌, ℕ, List, [], Some, length, slice_get, sym, ap, ap₂, ◌∙◌, arith, below_more}
use Rattle.atomic_table.specs.Seated.{TableId}
use Rattle.atomic_table.specs.Table.{Me}
use Rattle.idwords.specs.Seats.{ThreadState, opening_thread, SeatValue, seat_value, opening_seat}
use Rattle.idwords.specs.internal.Seating.{first_thread, first_only, others}
use Rattle.idwords.proofs.MeetLemmas.{splits_first}
use Rattle.idwords.proofs.OpeningLemmas.{threads_next, first_next, dealt, get_old, get_new}
use Rattle.idwords.proofs.row.seats_of.Goals as goal

pub split_seat-own-requires : goal.split_seat-own-requires
split_seat-own-requires c =
    let shared = c.args.table.now.shared in
    let token = c.loop-s.token in
    (c.loop-s.invariant.table, omega (arith, c.requires.words), splits_first shared.key.formula.value shared.key.layout token.id token.me.0)

pub invariant_of-push_reserved : goal.invariant_of-push_reserved
invariant_of-push_reserved c =
    let f = c.args.table.now.shared.key.formula.value in
    let p = c.args.layout.now in
    let i : ℕ = c.loop-s._s in
    let within : i < p.streams = omega arith in
    let threads = ap (λ (m : Me ℕ (List ThreadState)). m.0) c.loop-s.invariant.threads ∙ threads_next f p (i + 1) p.streams i within in
    let result = c.split_seat-own.result in
    dealt {S = ℕ} f p (i + 1) result.table_id result.me c.loop-s.top c.room.result c.requires.plan (omega arith, omega arith)
    (ap (λ (t : TableId). t.words) (c.split_seat-own.ensures.3 ∙ c.loop-s.invariant.table) ∙ c.requires.words)
    (c.split_seat-own.ensures.4 ∙ ap (λ (vs : List ThreadState). (first_only vs, [])) threads) c.loop-s.invariant.top c.room.ensures.room

pub loop-s-preserved : goal.loop-s-preserved
loop-s-preserved c =
    let f = c.args.table.now.shared.key.formula.value in
    let p = c.args.layout.now in
    let i : ℕ = c.loop-s._s in
    let within : i < p.streams = omega arith in
    let threads = ap (λ (m : Me ℕ (List ThreadState)). m.0) c.loop-s.invariant.threads ∙ threads_next f p (i + 1) p.streams i within in
    let none = ap (λ (m : Me ℕ (List ThreadState)). m.1) c.loop-s.invariant.threads in
    let result = c.split_seat-own.result in
    let dealt_thread : first_thread result.me.0 ≡ opening_thread f p (i + 1) =
    ap (λ (m : Me ℕ (List ThreadState)). first_thread m.0)
    (c.split_seat-own.ensures.4 ∙ ap (λ (vs : List ThreadState). (first_only vs, [])) threads) in
    let seat : seat_value result.table_id (first_thread result.me.0) ≡ opening_seat c.args.table.now.shared.table_id f p (i + 1) =
    ap₂ seat_value (c.split_seat-own.ensures.3 ∙ c.loop-s.invariant.table) dealt_thread in
    let len : length c.loop-s.seats.items ≡ i = sym c.loop-s.seats.ok.0 ∙ c.loop-s.invariant.count in
    let grown = c.push_reserved.ensures.items in
    record {
      table = c.split_seat-own.ensures.0 ∙ c.loop-s.invariant.table;
      threads = c.split_seat-own.ensures.2 ∙ ap₂ (λ (vs : List ThreadState) (slots : List (ℕ × ℕ)). (others vs, slots)) threads none;
      top = omega (arith, c.loop-s.invariant.top, c.room-top.ensures.room, first_next p i);
      count = omega (arith, c.push_reserved.ensures.len, c.loop-s.invariant.count);
      room = omega (arith, c.push_reserved.ensures.capacity, c.loop-s.invariant.room);
      seats = below_more
          (λ (k : ℕ). slice_get c.push_reserved.new.self.items k ≡ Some (opening_seat c.args.table.now.shared.table_id f p (k + 1))) i
          (λ k below. ap (λ (xs : List SeatValue). slice_get xs k) grown
          ∙ get_old c.loop-s.seats.items (seat_value result.table_id (first_thread result.me.0)) _ k (c.loop-s.invariant.seats k below))
          (ap (λ (xs : List SeatValue). slice_get xs i) grown
          ∙ get_new c.loop-s.seats.items (seat_value result.table_id (first_thread result.me.0)) i len ∙ ap Some seat);
    }
