-- The seat of a pass between two calls (this project's own).
use Rattle.std.specs.Prelude.{◌≡◌, ℕ, []}
use Rattle.idwords.specs.Seats.{SeatValue}
use Rattle.idwords.specs.Spelling.{LieWithin}
use Rattle.lrup_model.specs.Layout.{row_words}
use Rattle.lrup_model.specs.Pass.{IsFair}
use Rattle.clause_store.specs.Passes.{PassValue}

abbrev pub pass_value : SeatValue → PassValue
pass_value seat = record { row = seat.table; view = seat.view }

-- Between two calls, the seat of a pass is fair, belongs to this stream and has no draft, and its
-- clauses are inside the row.
pub record IsAtRest (seat : SeatValue) (stream : ℕ) : Type 0 where
  pub fair : IsFair seat.view
  pub stream_is : stream ≡ seat.view.caller.stream
  pub draft : seat.draft ≡ []
  pub within : LieWithin (row_words seat.view.caller.layout) seat.view.spelt
