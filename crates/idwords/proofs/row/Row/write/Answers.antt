use Rattle.std.proofs.Common.{rules, ◌≡◌, List, ℕ, ◌+◌, ◌/◌, ◌≤◌, length, sym, ap, ap₂, ◌∙◌, arith, length-append}
use mathlib.Core.Option.{none}
use Rattle.atomic_table.specs.Table.{step, Me}
use Rattle.lrup_model.specs.Layout.{row_words}
use Rattle.lrup_model.specs.Event.{spent}
use Rattle.idwords.specs.Words.{pair_of}
use Rattle.idwords.specs.Seats.{ThreadState}
use Rattle.idwords.specs.internal.Rule.{thread_stream}
use Rattle.idwords.specs.internal.Seating.{first_thread, thread_of}
use Rattle.idwords.specs.internal.Steps.{Stores, Writes}
use Rattle.idwords.proofs.StepLemmas.{stores}
use Rattle.idwords.proofs.WordLemmas.{some_literals, two_literals, one_literal}
use Rattle.idwords.proofs.PlaceLemmas.{top_within, written_at}
use Rattle.idwords.proofs.SeatLemmas.{asks, seated_write}
use Rattle.idwords.proofs.row.Row.write.Goals as goal
use Rattle.idwords.proofs.row.Row.write.Goals.{then-is_some, else-is_some}

pub overflow_add-place : goal.overflow_add-place
overflow_add-place c =
    let v : ThreadState = first_thread c.seat.inside.token.me.0 in
    let inside : c.seat.inside.top + c.seat.inside.drafted ≤ row_words v.view.caller.layout =
    top_within v.view.caller.layout
    (thread_stream v) c.seat.inside.top c.seat.inside.drafted c.seat.inside.room v.view.mine c.seat.invariant.fair.caller.stream
    (c.seat.invariant.top_kept ∙ c.seat.invariant.top_is) c.seat.invariant.room_kept c.seat.invariant.within in
    omega (arith, c.seat.invariant.fair.caller.layout.row)

pub store-requires : goal.store-requires
store-requires c =
    let shared = c.self.inside.table.shared in
    let token = c.seat.inside.token in
    let seat = c.args.seat.now in
    let v : ThreadState = thread_of seat in
    let place : ℕ = c.seat.inside.top + c.seat.inside.drafted / 2 in
    let word : ℕ = c.pair_word-word.result in
    let one = step {S = ℕ} shared.table_id.slots place word 0 none in
    let here : first_thread token.me.0 ≡ v = ap thread_of c.seat.view_is in
    let drafted : c.seat.inside.drafted ≡ length v.draft = c.seat.invariant.draft_is ∙ ap (λ (u : ThreadState). length u.draft) here in
    let at : v.top + length v.draft / 2 ≡ place =
    sym (ap₂ (λ (a b : ℕ). a + b / 2) (c.seat.invariant.top_kept ∙ ap (λ (u : ThreadState). u.top) here) drafted) in
    let some = some_literals c.args.first c.args.second in
    let longer = length-append v.draft (pair_of c.args.first c.args.second) in
    let u : ThreadState = first_thread token.me.0 in
    let left : c.seat.inside.drafted + 1 ≤ c.seat.inside.room =
    omega (
      arith,
      c.requires.room,
      ap (λ (w : ThreadState). spent (thread_stream w) w.view.mine) here,
      ap (λ (w : ThreadState). w.view.caller.layout.room) here,
    ) in
    let inside : c.seat.inside.top + (c.seat.inside.drafted + 1) ≤ row_words u.view.caller.layout =
    top_within u.view.caller.layout (thread_stream u) c.seat.inside.top
    (c.seat.inside.drafted + 1) c.seat.inside.room u.view.mine c.seat.invariant.fair.caller.stream
    (c.seat.invariant.top_kept ∙ c.seat.invariant.top_is) c.seat.invariant.room_kept left in
    let all : row_words u.view.caller.layout
    ≡ row_words v.view.caller.layout = ap (λ (w : ThreadState). row_words w.view.caller.layout) here in
    asks shared.key.formula.value shared.key.layout shared.table_id.slots token.id place (λ _. word) (λ v n w. Writes word v w)
    (λ me _ after. Stores one me word after)
    token.table_id shared.table_id token.me seat c.seat.inside.top c.seat.inside.drafted c.seat.inside.room
    c.seat.invariant c.seat.view_is (c.requires.row ∙ sym c.self.view_is) (omega arith)
    (written_at v token.id c.args.first c.args.second place word c.requires.even
    (omega (arith, c.requires.room)) c.pair_word-word.ensures.first c.pair_word-word.ensures.second at
    (sym c.pair_word-word.ensures.word))
    (λ v n w known. stores one v word w known)

pub invariant_of-seat : goal.invariant_of-seat
invariant_of-seat c =
    let token = c.seat.inside.token in
    let new = c.store.new.seat in
    let v : ThreadState = first_thread token.me.0 in
    let pair = pair_of c.args.first c.args.second in
    let known = c.store.ensures.2 v (ap (λ (m : Me ℕ (List ThreadState)). m.0) c.seat.invariant.one) in
    let grown =
    known.3 c.args.first c.args.second c.pair_word-word.ensures.first c.pair_word-word.ensures.second c.pair_word-word.ensures.word in
    let count : c.if-is_some.seat ≡ length pair = elim c.if-is_some.branch [
      | then-is_some w ↦ w.seat-is ∙ sym (two_literals c.args.first c.args.second (sym c.is_some.ensures ∙ w.if-is_some.true))
      | else-is_some w ↦ w.seat-is ∙ sym (one_literal c.args.first c.args.second (sym c.is_some.ensures ∙ w.if-is_some.false))
    ] in
    let here : v ≡ thread_of c.args.seat.now = ap thread_of c.seat.view_is in
    seated_write token.table_id new.table_id token.me new.me c.seat.inside.top c.seat.inside.drafted c.seat.inside.room c.if-is_some.seat
    pair known.0 c.seat.invariant
    c.store.ensures.0 known.1 known.2 grown count
    (omega (
      arith,
      c.requires.room,
      c.seat.invariant.draft_is,
      c.seat.invariant.room_kept,
      ap (λ (u : ThreadState). length u.draft) here,
      ap (λ (u : ThreadState). spent (thread_stream u) u.view.mine) here,
      ap (λ (u : ThreadState). u.view.caller.layout.room) here,
    ))

pub returns : goal.returns
returns c = search rules
