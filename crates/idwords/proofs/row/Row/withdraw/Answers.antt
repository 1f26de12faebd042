use Rattle.std.proofs.Common.{rules, ◌≡◌, ℕ, ◌+◌, eqb, List, [], ◌∷◌, refl, sym, ap, ap₂, subst, ◌∙◌, arith}
use prog.Atomic.{either}
use mathlib.Core.Option.{none}
use Rattle.atomic_table.specs.Table.{step, Me}
use Rattle.lrup_model.specs.Pass.{IsFair}
use Rattle.lrup_model.specs.lemmas.OwnerLemmas.{owned}
use Rattle.lrup_model.specs.Layout.{Owns}
use Rattle.idwords.specs.Words.{word_state}
use Rattle.idwords.specs.Seats.{ThreadState, SeatValue}
use Rattle.idwords.specs.internal.Rule.{thread_stream}
use Rattle.idwords.specs.internal.Seating.{first_thread, thread_of}
use Rattle.idwords.specs.internal.Steps.{Changes, Finds, Retires}
use Rattle.idwords.proofs.StepLemmas.{changes}
use Rattle.idwords.proofs.RetireLemmas.{finds, retires}
use Rattle.idwords.proofs.SeatLemmas.{asks, asks_thread, words_of, seated_call}
use Rattle.idwords.proofs.row.Row.withdraw.Goals as goal

pub load-found-requires : goal.load-found-requires
load-found-requires c =
    let shared = c.self.inside.table.shared in
    let token = c.seat.inside.token in
    let seat = c.args.seat.now in
    let one = step {S = ℕ} shared.table_id.slots c.args.id 0 0 none in
    let here : first_thread token.me.0 ≡ thread_of seat = ap thread_of c.seat.view_is in
    let fair : IsFair seat.view = subst (λ (v : ThreadState). IsFair v.view) here c.seat.invariant.fair in
    let who =
    owned seat.view.caller.layout seat.view.caller.stream c.args.id (omega (arith, fair.caller.layout.some_stream)) c.requires.owns in
    asks shared.key.formula.value shared.key.layout shared.table_id.slots token.id c.args.id (λ n. n) (Finds c.args.id) (Changes Finds one)
    token.table_id shared.table_id token.me seat c.seat.inside.top c.seat.inside.drafted c.seat.inside.room
    c.seat.invariant c.seat.view_is (c.requires.row ∙ sym c.self.view_is) (omega (arith, who.identity))
    (finds (thread_of seat) token.id c.args.id c.requires.owns) (changes Finds one)

pub compare_exchange-requires : goal.compare_exchange-requires
compare_exchange-requires c =
    let shared = c.self.inside.table.shared in
    let token = c.seat.inside.token in
    let found = c.load-found.result in
    let new = c.load-found.new.seat in
    let v : ThreadState = first_thread token.me.0 in
    let one = step {S = ℕ} shared.table_id.slots c.args.id found (found + 1) none in
    let known = c.load-found.ensures.2 v (ap (λ (m : Me ℕ (List ThreadState)). m.0) c.seat.invariant.one) in
    let live : word_state found ≡ 1 = sym c.state.ensures ∙ c.if-state-ne-LIVE.false in
    let stays : known.0 ≡ v = known.3.live live in
    let me : new.me ≡ (v ∷ [], []) = ap₂ (λ (vs : List ThreadState) (slots : List (ℕ × ℕ)). (vs, slots))
    (known.1 ∙ ap (λ (u : ThreadState). u ∷ []) stays)
    (known.2 ∙ ap (λ (m : Me ℕ (List ThreadState)). m.1) c.seat.invariant.one) in
    let owns : Owns v.view.caller.layout (thread_stream v) c.args.id = rw (← c.seat.view_is) at c.requires.owns in
    let table : token.table_id ≡ shared.table_id = ap (λ (s : SeatValue). s.table) c.seat.view_is ∙ c.requires.row ∙ sym c.self.view_is in
    let who = owned v.view.caller.layout (thread_stream v) c.args.id
    (omega (arith, c.seat.invariant.fair.caller.layout.some_stream)) owns in
    let words =
    words_of token.table_id shared.table_id token.me c.seat.inside.top c.seat.inside.drafted c.seat.inside.room c.seat.invariant table in
    asks_thread shared.key.formula.value shared.key.layout shared.table_id.slots new.id c.args.id (λ n. either (eqb n found) (found + 1) n)
    (λ u n w. Retires c.args.id u w)
    (Changes (λ id u _ w. Retires id u w) one) new.table_id shared.table_id new.me v me (c.load-found.ensures.0 ∙ table)
    (omega (arith, who.identity))
    (retires v new.id c.args.id found owns known.3.own live) (changes (λ id u _ w. Retires id u w) one)

pub invariant_of-seat : goal.invariant_of-seat
invariant_of-seat c =
    let token = c.seat.inside.token in
    let new = c.load-found.new.seat in
    let known = c.load-found.ensures.2 (first_thread token.me.0) (ap (λ (m : Me ℕ (List ThreadState)). m.0) c.seat.invariant.one) in
    let none = known.3.none (λ live. c.if-state-ne-LIVE.true (c.state.ensures ∙ live)) in
    seated_call token.table_id new.table_id token.me new.me c.seat.inside.top c.seat.inside.drafted c.seat.inside.room known.0 _
    c.seat.invariant
    c.load-found.ensures.0 known.1 known.2 none.calls refl refl none.top none.draft

pub invariant_of-seat-2 : goal.invariant_of-seat-2
invariant_of-seat-2 c =
    let token = c.seat.inside.token in
    let new = c.compare_exchange.new.seat in
    let v : ThreadState = first_thread token.me.0 in
    let known = c.load-found.ensures.2 v (ap (λ (m : Me ℕ (List ThreadState)). m.0) c.seat.invariant.one) in
    let stays : known.0 ≡ v = known.3.live (sym c.state.ensures ∙ c.if-state-ne-LIVE.false) in
    let done = c.compare_exchange.ensures.2 v (known.1 ∙ ap (λ (u : ThreadState). u ∷ []) stays) in
    seated_call token.table_id new.table_id token.me new.me c.seat.inside.top c.seat.inside.drafted c.seat.inside.room done.0 _
    c.seat.invariant
    (c.compare_exchange.ensures.0 ∙ c.load-found.ensures.0) done.1 (done.2 ∙ known.2) done.3.calls refl refl done.3.top done.3.draft

pub returns-then-state-ne-LIVE : goal.returns-then-state-ne-LIVE
returns-then-state-ne-LIVE c =
    record { row = search rules; calls = search rules; done = search rules; top = search rules; draft = search rules }

pub returns : goal.returns
returns c = record { row = search rules; calls = search rules; done = search rules; top = search rules; draft = search rules }
