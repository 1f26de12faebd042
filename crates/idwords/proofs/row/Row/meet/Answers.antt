use Rattle.std.proofs.Common.{◌≡◌, ℕ, ◌++◌, List, [], ◌∷◌, refl, sym, ap, ap₂, ◌∙◌, arith}
use mathlib.Core.Option.{none}
use Rattle.atomic_table.specs.Table.{step, Me}
use Rattle.idwords.specs.Seats.{ThreadState, SeatValue}
use Rattle.idwords.specs.internal.Seating.{first_thread}
use Rattle.idwords.specs.internal.Steps.{Joined, SyncThreads}
use Rattle.idwords.proofs.MeetLemmas.{splits_all, splits_thread, joins, meets, joined, parted}
use Rattle.idwords.proofs.SeatLemmas.{words_of, seated_on}
use Rattle.idwords.proofs.row.Row.meet.Goals as goal

pub split_seat-token-requires : goal.split_seat-token-requires
split_seat-token-requires c =
    let shared = c.self.inside.table.shared in
    let token = c.second.inside.token in
    let table : token.table_id ≡ shared.table_id = ap (λ (s : SeatValue). s.table) c.second.view_is ∙ c.requires.second
    ∙ sym c.self.view_is in (
      table,
      omega (
        arith,
        words_of token.table_id shared.table_id token.me c.second.inside.top c.second.inside.drafted c.second.inside.room
            c.second.invariant table,
      ),
      splits_all shared.key.formula.value shared.key.layout token.id token.me.0,
    )

pub join_seat-requires : goal.join_seat-requires
join_seat-requires c =
    let shared = c.self.inside.table.shared in
    let token = c.first.inside.token in
    let other = c.split_seat-token.result in
    let given = c.split_seat-token.ensures in
    let table : token.table_id ≡ shared.table_id = ap (λ (s : SeatValue). s.table) c.first.view_is ∙ c.requires.first
    ∙ sym c.self.view_is in
    let table' : c.second.inside.token.table_id ≡ shared.table_id = ap (λ (s : SeatValue). s.table) c.second.view_is ∙ c.requires.second
    ∙ sym c.self.view_is in (
      table,
      given.3 ∙ table',
      ap (λ (m : Me ℕ (List ThreadState)). m.1) given.4,
      omega (
        arith,
        words_of token.table_id shared.table_id token.me c.first.inside.top c.first.inside.drafted c.first.inside.room
            c.first.invariant table,
      ),
      joins shared.key.formula.value shared.key.layout token.id token.me.0 other.id other.me.0,
    )

pub load-requires : goal.load-requires
load-requires c =
    let shared = c.self.inside.table.shared in
    let token = c.first.inside.token in
    let new = c.join_seat.new.seat in
    let v : ThreadState = first_thread token.me.0 in
    let v' : ThreadState = first_thread c.second.inside.token.me.0 in
    let one = step {S = ℕ} shared.table_id.slots 0 0 0 none in
    let table : token.table_id ≡ shared.table_id = ap (λ (s : SeatValue). s.table) c.first.view_is ∙ c.requires.first
    ∙ sym c.self.view_is in
    let other : c.split_seat-token.result.me.0 ≡ v' ∷ [] = ap (λ (m : Me ℕ (List ThreadState)). m.0) c.split_seat-token.ensures.4
    ∙ ap (λ (m : Me ℕ (List ThreadState)). m.0) c.second.invariant.one in
    let me : new.me ≡ (v ∷ v' ∷ [], []) = c.join_seat.ensures.2
    ∙ ap₂ (λ (m : Me ℕ (List ThreadState)) (ws : List ThreadState). (m.0 ++ ws, m.1)) c.first.invariant.one other in (
      c.join_seat.ensures.0 ∙ table,
      omega (
        arith,
        words_of token.table_id shared.table_id token.me c.first.inside.top c.first.inside.drafted c.first.inside.room
            c.first.invariant table,
      ),
      rw me
          (meets shared.key.formula.value shared.key.layout shared.table_id.slots new.id v v' 0 (Joined one (v ∷ v' ∷ [], []))
          (joined one v v')),
    )

pub split_seat-requires : goal.split_seat-requires
split_seat-requires c =
    let shared = c.self.inside.table.shared in
    let token = c.first.inside.token in
    let new = c.load.new.seat in
    let table : token.table_id ≡ shared.table_id = ap (λ (s : SeatValue). s.table) c.first.view_is ∙ c.requires.first
    ∙ sym c.self.view_is in (
      c.load.ensures.0 ∙ c.join_seat.ensures.0 ∙ table,
      omega (
        arith,
        words_of token.table_id shared.table_id token.me c.first.inside.top c.first.inside.drafted c.first.inside.room
            c.first.invariant table,
      ),
      splits_thread shared.key.formula.value shared.key.layout new.id new.me.0,
    )

-- after the load, once each thread state is back in its own token, the two have met
now : (c : goal.After-drop-second-inside)
    → SyncThreads (first_thread c.first.inside.token.me.0) (first_thread c.second.inside.token.me.0)
    (first_thread c.split_seat.new.seat.me.0)
    (first_thread c.split_seat.result.me.0)
    × (c.split_seat.new.seat.me ≡ (first_thread c.split_seat.new.seat.me.0 ∷ [], []))
    × (c.split_seat.result.me ≡ (first_thread c.split_seat.result.me.0 ∷ [], []))
now c =
    let v : ThreadState = first_thread c.first.inside.token.me.0 in
    let v' : ThreadState = first_thread c.second.inside.token.me.0 in
    let other : c.split_seat-token.result.me.0 ≡ v' ∷ [] = ap (λ (m : Me ℕ (List ThreadState)). m.0) c.split_seat-token.ensures.4
    ∙ ap (λ (m : Me ℕ (List ThreadState)). m.0) c.second.invariant.one in
    let both : c.join_seat.new.seat.me ≡ (v ∷ v' ∷ [], []) = c.join_seat.ensures.2
    ∙ ap₂ (λ (m : Me ℕ (List ThreadState)) (ws : List ThreadState). (m.0 ++ ws, m.1)) c.first.invariant.one other in
    parted (step {S = ℕ} c.self.inside.table.shared.table_id.slots 0 0 0 none) c.join_seat.new.seat.me c.load.new.seat.me
    c.split_seat.new.seat.me c.split_seat.result.me v v' c.load.result
    both c.load.ensures.2 c.split_seat.ensures.2 c.split_seat.ensures.4

pub invariant_of-first : goal.invariant_of-first
invariant_of-first c =
    let token = c.first.inside.token in
    let left = c.split_seat.new.seat in
    let known = now c in
    seated_on token.table_id left.table_id token.me left.me c.first.inside.top c.first.inside.drafted c.first.inside.room
    (first_thread left.me.0) [] c.first.invariant
    (c.split_seat.ensures.0 ∙ c.load.ensures.0 ∙ c.join_seat.ensures.0) (ap (λ (m : Me ℕ (List ThreadState)). m.0) known.1)
    (ap (λ (m : Me ℕ (List ThreadState)). m.1) known.1)
    known.0.meets.first known.0.meets.fair refl known.0.top known.0.draft

pub invariant_of-second : goal.invariant_of-second
invariant_of-second c =
    let token = c.second.inside.token in
    let right = c.split_seat.result in
    let known = now c in
    let first : c.first.inside.token.table_id ≡ c.self.inside.table.shared.table_id = ap (λ (s : SeatValue). s.table) c.first.view_is
    ∙ c.requires.first ∙ sym c.self.view_is in
    let second : token.table_id ≡ c.self.inside.table.shared.table_id = ap (λ (s : SeatValue). s.table) c.second.view_is ∙ c.requires.second
    ∙ sym c.self.view_is in
    seated_on token.table_id right.table_id token.me right.me c.second.inside.top c.second.inside.drafted c.second.inside.room
    (first_thread right.me.0) [] c.second.invariant
    (c.split_seat.ensures.3 ∙ c.load.ensures.0 ∙ c.join_seat.ensures.0 ∙ first ∙ sym second)
    (ap (λ (m : Me ℕ (List ThreadState)). m.0) known.2)
    (ap (λ (m : Me ℕ (List ThreadState)). m.1) known.2)
    known.0.meets.second known.0.meets.fair' refl known.0.top' known.0.draft'

pub returns-clause-within : goal.returns-clause-within
returns-clause-within c = (now c).0.within

pub returns-clause-within_too : goal.returns-clause-within_too
returns-clause-within_too c = (now c).0.within'

pub returns-clause-tops : goal.returns-clause-tops
returns-clause-tops c =
    let known = (now c).0 in
    (known.top ∙ ap (λ (s : SeatValue). s.top) c.first.view_is, known.top' ∙ ap (λ (s : SeatValue). s.top) c.second.view_is)

pub returns-clause-drafts : goal.returns-clause-drafts
returns-clause-drafts c =
    let known = (now c).0 in
    (known.draft ∙ ap (λ (s : SeatValue). s.draft) c.first.view_is, known.draft' ∙ ap (λ (s : SeatValue). s.draft) c.second.view_is)
