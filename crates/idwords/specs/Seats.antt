-- A seat as contracts see it (this project's own).
use Rattle.std.specs.Prelude.{ℕ, []}
pub use Rattle.atomic_table.specs.Seated.{TableId}
use Rattle.lrup_model.specs.Clause.{Clause}
use Rattle.lrup_model.specs.Formula.{Cnf}
use Rattle.lrup_model.specs.Layout.{LayoutValue}
use Rattle.lrup_model.specs.Pass.{View}
use Rattle.idwords.specs.Spelling.{spelling_of, first_place}

-- The row of the seat; what its stream knows; the index of the first word of the stream's room
-- after its published clauses; and the literals stored from there on.
pub record SeatValue : Type 0 where
  pub table : TableId
  pub view : View
  pub top : ℕ
  pub draft : Clause

-- What one stream knows: its view, its top, and its draft, i.e. the literals stored from the top
-- on. A seat has one thread state; but while two seats meet, one of them has both seats' thread
-- states, and at the opening, the first seat has those of all seats.
pub record ThreadState : Type 0 where
  pub view : View
  pub top : ℕ
  pub draft : Clause

abbrev pub seat_value : TableId → ThreadState → SeatValue
seat_value table thread =
    record { table = table; view = thread.view; top = thread.top; draft = thread.draft }

-- a stream's thread state at the opening
abbrev pub opening_thread : Cnf → LayoutValue → ℕ → ThreadState
opening_thread formula layout s = record {
  view = record {
    caller = record { formula = formula; layout = layout; stream = s };
    seen = [];
    mine = [];
    spelt = spelling_of formula layout [];
  };
  top = first_place layout s;
  draft = [];
}

-- a stream's seat at the opening
abbrev pub opening_seat : TableId → Cnf → LayoutValue → ℕ → SeatValue
opening_seat table formula layout s = seat_value table (opening_thread formula layout s)
