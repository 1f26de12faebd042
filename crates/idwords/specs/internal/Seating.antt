-- How a seat's value follows from its thread states, and what the seat keeps (this project's own).
use Rattle.std.specs.Prelude.{◌≡◌, ◌+◌, ◌≤◌, ℕ, List, [], ◌∷◌, length}
use Rattle.atomic_table.specs.Seated.{TableId}
use Rattle.atomic_table.specs.Table.{Me}
use Rattle.lrup_model.specs.Layout.{row_words}
use Rattle.lrup_model.specs.Event.{spent}
use Rattle.lrup_model.specs.Pass.{IsFair}
use Rattle.idwords.specs.Spelling.{top_after}
use Rattle.idwords.specs.Seats.{ThreadState, SeatValue}
use Rattle.idwords.specs.internal.Rule.{thread_stream}

-- a thread state that belongs to no stream
abbrev no_thread : ThreadState
no_thread = record {
  view = record {
    caller = record {
      formula = record { vars = 0; clauses = [] };
      layout = record { vars = 0; clauses = 0; literals = 0; streams = 0; lines = 0; room = 0 };
      stream = 0;
    };
    seen = [];
    mine = [];
    spelt = [];
  };
  top = 0;
  draft = [];
}

-- the first of the thread states
abbrev pub first_thread : List ThreadState → ThreadState
first_thread [] = no_thread
first_thread (thread ∷ threads) = thread

abbrev pub first_only : List ThreadState → List ThreadState
first_only [] = []
first_only (thread ∷ threads) = thread ∷ []

abbrev pub others : List ThreadState → List ThreadState
others [] = []
others (thread ∷ threads) = threads

-- what the seat's stream knows
abbrev pub thread_of : SeatValue → ThreadState
thread_of seat = record { view = seat.view; top = seat.top; draft = seat.draft }

-- The token has one thread state, which is fair; the row has as many words as the layout says; the
-- seat's numbers are its top, the length of its draft, and the room that is left, into which the
-- draft fits.
pub record IsSeated {S : Type 0} (table : TableId) (me : Me S (List ThreadState))
    (top drafted room : ℕ) : Type 0 where
  pub one : me ≡ (first_thread me.0 ∷ [], [])
  pub fair : IsFair (first_thread me.0).view
  pub words : table.words ≡ row_words (first_thread me.0).view.caller.layout
  pub top_is : (first_thread me.0).top ≡ top_after (first_thread me.0).view.caller.layout
      (thread_stream (first_thread me.0)) (first_thread me.0).view.mine
  pub draft_is : drafted ≡ length (first_thread me.0).draft
  pub top_kept : top ≡ (first_thread me.0).top
  pub room_kept : room + spent (thread_stream (first_thread me.0)) (first_thread me.0).view.mine
      ≡ (first_thread me.0).view.caller.layout.room
  pub within : drafted ≤ room
