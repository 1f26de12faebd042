use Rattle.std.proofs.Common.{rules, ℕ, List, refl, sym, ap, ◌∙◌, arith}
use mathlib.Core.Option.{none}
use Rattle.atomic_table.specs.Table.{step, Me}
use Rattle.idwords.specs.Seats.{ThreadState}
use Rattle.idwords.specs.internal.Seating.{first_thread, thread_of}
use Rattle.idwords.specs.internal.Steps.{Changes, Looks}
use Rattle.idwords.proofs.StepLemmas.{changes}
use Rattle.idwords.proofs.LookLemmas.{looks}
use Rattle.idwords.proofs.SeatLemmas.{asks, seated_call}
use Rattle.idwords.proofs.row.Row.look.Goals as goal

pub load-requires : goal.load-requires
load-requires c =
    let shared = c.self.inside.table.shared in
    let token = c.seat.inside.token in
    let one = step {S = ℕ} shared.table_id.slots c.args.id 0 0 none in
    asks shared.key.formula.value shared.key.layout shared.table_id.slots token.id c.args.id (λ n. n) (Looks c.args.id) (Changes Looks one)
    token.table_id shared.table_id token.me c.args.seat.now c.seat.inside.top c.seat.inside.drafted c.seat.inside.room
    c.seat.invariant c.seat.view_is (c.requires.row ∙ sym c.self.view_is) (omega arith)
    (looks (thread_of c.args.seat.now) token.id c.args.id c.requires.identity) (changes Looks one)

pub invariant_of-seat : goal.invariant_of-seat
invariant_of-seat c =
    let token = c.seat.inside.token in
    let new = c.load.new.seat in
    let known = c.load.ensures.2 (first_thread token.me.0) (ap (λ (m : Me ℕ (List ThreadState)). m.0) c.seat.invariant.one) in
    seated_call token.table_id new.table_id token.me new.me c.seat.inside.top c.seat.inside.drafted c.seat.inside.room known.0 _
    c.seat.invariant
    c.load.ensures.0 known.1 known.2 known.3.calls refl refl known.3.top known.3.draft

pub returns-clause-shows : goal.returns-clause-shows
returns-clause-shows c = search rules

pub returns-clause-calls : goal.returns-clause-calls
returns-clause-calls c = search rules
