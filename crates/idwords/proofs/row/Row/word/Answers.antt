use Rattle.std.proofs.Common.{ℕ, sym, ◌∙◌}
use mathlib.Core.Option.{none}
use Rattle.atomic_table.specs.Table.{step}
use Rattle.idwords.specs.internal.Seating.{thread_of}
use Rattle.idwords.specs.internal.Steps.{Changes, Reads}
use Rattle.idwords.proofs.StepLemmas.{changes}
use Rattle.idwords.proofs.PlaceLemmas.{reads}
use Rattle.idwords.proofs.SeatLemmas.{asks}
use Rattle.idwords.proofs.row.Row.word.Goals as goal

pub load-requires : goal.load-requires
load-requires c =
    let shared = c.self.inside.table.shared in
    let token = c.seat.inside.token in
    let one = step {S = ℕ} shared.table_id.slots c.args.place 0 0 none in
    asks shared.key.formula.value shared.key.layout shared.table_id.slots token.id c.args.place (λ n. n) (Reads c.args.place)
    (Changes Reads one)
    token.table_id shared.table_id token.me c.args.seat.now c.seat.inside.top c.seat.inside.drafted c.seat.inside.room
    c.seat.invariant c.seat.view_is (c.requires.row ∙ sym c.self.view_is) c.requires.within
    (reads (thread_of c.args.seat.now) token.id c.args.place) (changes Reads one)
