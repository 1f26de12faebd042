use Rattle.std.proofs.Common.{rules, ◌≡◌, ◌+◌, ◌≤◌, ℕ, eqb, length, sym, ap, ap₂, subst, ◌∙◌, arith}
use prog.Atomic.{either}
use mathlib.Core.Option.{none}
use Rattle.atomic_table.specs.Table.{step}
use Rattle.idwords.specs.internal.RowWords.{identity_word}
use Rattle.idwords.specs.Seats.{ThreadState}
use Rattle.idwords.specs.internal.Rule.{thread_stream}
use Rattle.idwords.specs.internal.Seating.{first_thread, thread_of}
use Rattle.idwords.specs.internal.Steps.{Changes, Claims}
use Rattle.idwords.proofs.StepLemmas.{changes}
use Rattle.idwords.proofs.ClaimLemmas.{claims}
use Rattle.idwords.proofs.PlaceLemmas.{top_within}
use Rattle.idwords.proofs.SeatLemmas.{asks, seated_claim}
use Rattle.lrup_model.specs.Layout.{row_words}
use Rattle.lrup_model.specs.Pass.{IsFair}
use Rattle.lrup_model.specs.lemmas.OwnerLemmas.{owned}
use Rattle.idwords.proofs.row.Row.claim.Goals as goal

pub live_word-word-requires-clause-start : goal.live_word-word-requires-clause-start
live_word-word-requires-clause-start c =
    let v : ThreadState = first_thread c.seat.inside.token.me.0 in
    let within : c.seat.inside.top + c.seat.inside.drafted ≤ row_words v.view.caller.layout =
    top_within v.view.caller.layout
    (thread_stream v) c.seat.inside.top c.seat.inside.drafted c.seat.inside.room v.view.mine c.seat.invariant.fair.caller.stream
    (c.seat.invariant.top_kept ∙ c.seat.invariant.top_is) c.seat.invariant.room_kept c.seat.invariant.within in
    omega (arith, c.seat.invariant.fair.caller.layout.row)

pub compare_exchange-found-requires : goal.compare_exchange-found-requires
compare_exchange-found-requires c =
    let shared = c.self.inside.table.shared in
    let token = c.seat.inside.token in
    let seat = c.args.seat.now in
    let word = c.live_word-word.result in
    let one = step {S = ℕ} shared.table_id.slots c.args.id 0 word none in
    let here : first_thread token.me.0 ≡ thread_of seat = ap thread_of c.seat.view_is in
    let is : word ≡ identity_word 1 (length seat.draft) seat.top = c.live_word-word.ensures
    ∙ ap₂ (λ (len top : ℕ). identity_word 1 len top) (c.seat.invariant.draft_is ∙ ap (λ (v : ThreadState). length v.draft) here)
    (c.seat.invariant.top_kept ∙ ap (λ (v : ThreadState). v.top) here) in
    let fair : IsFair seat.view = subst (λ (v : ThreadState). IsFair v.view) here c.seat.invariant.fair in
    let who =
    owned seat.view.caller.layout seat.view.caller.stream c.args.id (omega (arith, fair.caller.layout.some_stream)) c.requires.owns in
    asks shared.key.formula.value shared.key.layout shared.table_id.slots token.id c.args.id (λ n. either (eqb n 0) word n)
    (Claims c.args.id) (Changes Claims one)
    token.table_id shared.table_id token.me seat c.seat.inside.top c.seat.inside.drafted c.seat.inside.room
    c.seat.invariant c.seat.view_is (c.requires.row ∙ sym c.self.view_is) (omega (arith, who.identity))
    (claims (thread_of seat) token.id c.args.id word c.requires.owns c.requires.clause is) (changes Claims one)

pub invariant_of-seat-else-found-eq-VACANT : goal.invariant_of-seat-else-found-eq-VACANT
invariant_of-seat-else-found-eq-VACANT c =
    let token = c.seat.inside.token in
    let new = c.compare_exchange-found.new.seat in
    let shared = c.self.inside.table.shared in
    let one = step {S = ℕ} shared.table_id.slots c.args.id 0 c.live_word-word.result none in
    (seated_claim token.table_id new.table_id token.me new.me c.seat.inside.top c.seat.inside.drafted c.seat.inside.room
    c.compare_exchange-found.result c.args.id one
    c.seat.invariant c.compare_exchange-found.ensures.0 c.compare_exchange-found.ensures.2).1 c.if-found-eq-VACANT.false

pub invariant_of-seat : goal.invariant_of-seat
invariant_of-seat c =
    let token = c.seat.inside.token in
    let new = c.compare_exchange-found.new.seat in
    let shared = c.self.inside.table.shared in
    let one = step {S = ℕ} shared.table_id.slots c.args.id 0 c.live_word-word.result none in
    (seated_claim token.table_id new.table_id token.me new.me c.seat.inside.top c.seat.inside.drafted c.seat.inside.room
    c.compare_exchange-found.result c.args.id one
    c.seat.invariant c.compare_exchange-found.ensures.0 c.compare_exchange-found.ensures.2).0 c.if-found-eq-VACANT.true

pub returns-then-found-eq-VACANT : goal.returns-then-found-eq-VACANT
returns-then-found-eq-VACANT c =
    record { row = search rules; calls = search rules; done = search rules; top = search rules; draft = search rules }

pub returns-else-found-eq-VACANT : goal.returns-else-found-eq-VACANT
returns-else-found-eq-VACANT c =
    record { row = search rules; calls = search rules; done = search rules; top = search rules; draft = search rules }
