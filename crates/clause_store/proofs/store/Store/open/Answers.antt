use Rattle.std.proofs.Common.{◌≡◌, List, ◌-◌, slice_get, length, sym, ap, subst, ◌∙◌, arith}
use Rattle.clause_store.specs.Passes.{StoreValue, PassValue, AreOf}
use Rattle.clause_store.proofs.OpeningLemmas.{at_rest, opened_pass, opened_passes}
use Rattle.clause_store.proofs.store.Store.open.Goals as goal

pub passes_of-requires : goal.passes_of-requires
passes_of-requires c =
    let seats = c.in_ok-row.seats in
    let count : length seats.items ≡ c.args.layout.streams = omega (arith, c.in_ok-row.ensures.count, seats.ok.0) in
    at_rest c.in_ok-row.row c.args.formula.now c.args.layout seats.items count c.in_ok-row.ensures.seats c.in_ok-row.ensures.fair
    c.in_ok-row.ensures.within

pub returns-clause-passes : goal.returns-clause-passes
returns-clause-passes c = λ s pass stream here.
    let seats = c.in_ok-row.seats in
    let count : length seats.items ≡ c.args.layout.streams = omega (arith, c.in_ok-row.ensures.count, seats.ok.0) in
    opened_pass c.in_ok-row.row c.args.formula.now c.args.layout seats.items count c.in_ok-row.ensures.seats
    c.in_ok-row.ensures.fair s pass stream
    (ap (λ (ps : List PassValue). slice_get ps (s - 1)) (sym c.in_ok-passes.ensures) ∙ here)

pub returns-clause-store : goal.returns-clause-store
returns-clause-store c =
    let seats = c.in_ok-row.seats in
    let count : length seats.items ≡ c.args.layout.streams = omega (arith, c.in_ok-row.ensures.count, seats.ok.0) in
    let store : StoreValue = record { row = c.in_ok-row.row; layout = c.args.layout } in
    subst (λ (ps : List PassValue). AreOf store ps) (sym c.in_ok-passes.ensures)
    (opened_passes c.in_ok-row.row c.args.formula.now c.args.layout seats.items count c.in_ok-row.ensures.seats)
