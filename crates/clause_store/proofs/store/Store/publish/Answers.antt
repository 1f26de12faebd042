use Rattle.std.proofs.Common.{rules, ◌≡◌, ◌<◌, ℕ, ℤ, [], ◌∷◌, ◌++◌, length, get_or, sym, ap, subst, ◌∙◌, arith, append-nil}
use borrow.Author.Tests.{ltb-true, ltb-false}
use Rattle.lrup_model.specs.Clause.{Clause}
use Rattle.lrup_model.specs.Event as events
use Rattle.lrup_model.specs.Pass.{View}
use Rattle.lrup_model.specs.declared.clause_map.Published.{Published}
use Rattle.idwords.specs.Seats.{SeatValue}
use Rattle.idwords.specs.RowCalls.{Calls}
use Rattle.clause_store.specs.Passes.{PassValue}
use Rattle.clause_store.specs.internal.AtRest.{pass_value}
use Rattle.clause_store.specs.declared.pass.Pass.TheInside.{Inside}
use Rattle.clause_store.proofs.RestLemmas.{rests}
use Rattle.clause_store.proofs.store.Store.publish.Goals as goal
use Rattle.clause_store.proofs.store.Store.publish.Goals.{then-left-lt1, in-len1, else-left-lt1+else-left-lt2-2}

-- if the draft is this clause, publishing the draft is publishing the clause
published : (seat now : SeatValue) (p : PassValue) (id : ℕ) (c : Clause) (r : Published) (new : View)
    → now ≡ record seat { draft = now.draft } → pass_value seat ≡ p → now.draft ≡ c
    → Calls now.view new (events.publish now.view.caller.stream id now.draft r)
    → Calls p.view new (events.publish p.view.caller.stream id c r)
published seat now p id c r new same pass whole calls =
    let view : now.view ≡ p.view = ap (λ (s : SeatValue). s.view) same ∙ ap (λ (q : PassValue). q.view) pass in
    subst (λ (v : View). Calls v new (events.publish v.caller.stream id c r)) view
    (subst (λ (d : Clause). Calls now.view new (events.publish now.view.caller.stream id d r)) whole calls)

-- if only the draft has changed so far, then still only the draft has changed after one more write
drafted : (seat before now : SeatValue) (d : Clause) → before ≡ record seat { draft = before.draft } → now ≡ record before { draft = d }
    → now ≡ record seat { draft = now.draft }
drafted seat before now d same is =
    is ∙ ap (λ (s : SeatValue). record s { draft = d }) same
    ∙ ap (λ (x : Clause). record seat { draft = x }) (sym (ap (λ (s : SeatValue). s.draft) is))

only_draft : (c : goal.After-claim)
    → c.if-left-lt1.pass-inside.seat ≡ record c.pass.inside.seat { draft = c.if-left-lt1.pass-inside.seat.draft }
only_draft c =
    let seat = c.pass.inside.seat in
    let before = c.pairs.pass-inside.seat in
    let now = c.if-left-lt1.pass-inside.seat in
    elim c.if-left-lt1.branch [
      | then-left-lt1 w ↦ drafted seat before now before.draft c.pairs.invariant.seat (ap (λ (p : Inside). p.seat) w.pass-inside-is)
      | in-len1 w ↦
          drafted seat before now _ c.pairs.invariant.seat (ap (λ (p : Inside). p.seat) w.pass-inside-is ∙ w.write-in-len1.ensures)
      | else-left-lt1+else-left-lt2-2 w ↦
          drafted seat before now before.draft c.pairs.invariant.seat (ap (λ (p : Inside). p.seat) w.pass-inside-is)
    ]

pub invariant_of-pass : goal.invariant_of-pass
invariant_of-pass c =
    let calls = c.claim.ensures.calls in
    let stream : c.if-left-lt1.pass-inside.stream ≡ c.pass.inside.stream = elim c.if-left-lt1.branch [
      | then-left-lt1 w ↦ ap (λ (p : Inside). p.stream) w.pass-inside-is ∙ c.pairs.invariant.stream
      | in-len1 w ↦ ap (λ (p : Inside). p.stream) w.pass-inside-is ∙ c.pairs.invariant.stream
      | else-left-lt1+else-left-lt2-2 w ↦ ap (λ (p : Inside). p.stream) w.pass-inside-is ∙ c.pairs.invariant.stream
    ] in
    let own = stream ∙ c.pass.invariant.stream_is ∙ sym (ap (λ (s : SeatValue). s.view.caller.stream) (only_draft c)) in
    rests c.if-left-lt1.pass-inside.seat c.claim.new.seat c.if-left-lt1.pass-inside.stream own calls.moves.caller calls.fair
    c.claim.ensures.draft calls.within

-- once no literal is left, the draft is the whole clause
none_left : (d l c : Clause) → d ++ l ≡ c → length l < 1 → d ≡ c
none_left d [] c all none = sym (append-nil d) ∙ all
none_left d (k ∷ l) c all none = absurd (omega arith)

one_left : (d l c : Clause) (k : ℤ) → d ++ l ≡ c → length l ≡ 1 → k ≡ get_or l 0 k → d ++ k ∷ [] ≡ c
one_left d [] c k all one is = absurd (omega arith)
one_left d (j ∷ []) c k all one is = ap (λ (i : ℤ). d ++ i ∷ []) is ∙ all
one_left d (j ∷ i ∷ l) c k all one is = absurd (omega arith)

pub returns-clause-calls : goal.returns-clause-calls
returns-clause-calls c =
    let now = c.if-left-lt1.pass-inside.seat in
    let all = c.pairs.invariant.draft in
    let draft = λ (p : Inside). p.seat.draft in
    let whole : now.draft ≡ c.args.clause.now = elim c.if-left-lt1.branch [
      | then-left-lt1 w ↦ ap draft w.pass-inside-is
          ∙ none_left c.pairs.pass-inside.seat.draft c.pairs.left.now c.args.clause.now all (omega (arith, ltb-true))
      | in-len1 w ↦
          ap draft w.pass-inside-is ∙ ap (λ (s : SeatValue). s.draft) w.write-in-len1.ensures
          ∙ one_left c.pairs.pass-inside.seat.draft c.pairs.left.now c.args.clause.now w.last-item.result all
          (omega (arith, w.in-len1.len_at_least, w.in-len1.len_below)) w.last-item.is
      | else-left-lt1+else-left-lt2-2 w ↦ absurd (omega (arith, ltb-false))
    ] in
    published c.pass.inside.seat now c.args.pass.now c.args.id c.args.clause.now c.claim.result c.claim.new.seat.view
    (only_draft c) c.pass.view_is whole c.claim.ensures.calls

pub returns-clause-done : goal.returns-clause-done
returns-clause-done c = search rules
