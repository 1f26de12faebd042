-- What the tests know about a seat.
use Rattle.std.specs.Prelude.{◌≡◌, ℕ, []}
use Rattle.atomic_table.specs.Seated.{TableId}
use Rattle.lrup_model.specs.Layout.{LayoutValue}
use Rattle.lrup_model.specs.Formula.{Cnf}
use Rattle.idwords.specs.Seats.{SeatValue}

-- the seat is this stream's seat in this row, for this formula, and has no draft
abbrev pub IsSeatAt : Cnf → TableId → LayoutValue → ℕ → SeatValue → Type 0
IsSeatAt f table p s seat = (seat.table ≡ table)
    × (seat.view.caller ≡ record { formula = f; layout = p; stream = s }) × (seat.draft ≡ [])
