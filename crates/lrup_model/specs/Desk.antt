-- A stream's desk, through which the stream calls the clause map of one thread (this project's
-- own).
use Rattle.std.specs.Prelude.{◌≡◌, ◌+◌, ℕ}
use Rattle.std.specs.Borrow.{MutBor}
use Rattle.lrup_model.specs.Event.{History}
use Rattle.lrup_model.specs.CallerView.{CallerView}
use Rattle.lrup_model.specs.Plain.{Plain, plain_caller_view, PlainMoves}
use Rattle.lrup_model.specs.declared.plain_map.PlainDesk.{PlainDesk}

-- the number of the desk's stream, counting from 1
abbrev pub stream_at : PlainDesk → ℕ
stream_at desk = desk.index + 1

-- the map that the desk borrows
abbrev pub map_of : PlainDesk → Plain
map_of desk = desk.map.now

-- The desk belongs to this stream, and borrows this map.
pub record IsDesk (map : MutBor Plain) (s : ℕ) (desk : PlainDesk) : Type 0 where
  pub map_now : map_of desk ≡ map.now
  pub same : desk.map.ghost_name ≡ map.ghost_name
  pub stream : stream_at desk ≡ s

abbrev pub plain_desk_caller_view : PlainDesk → CallerView
plain_desk_caller_view desk = plain_caller_view (map_of desk) (stream_at desk)

-- The desk borrows the same map as before, and these events of the desk's stream have changed it.
pub record PlainDeskMoves (old new : PlainDesk) (history : History) : Type 0 where
  pub same : new.map.ghost_name ≡ old.map.ghost_name
  pub index : new.index ≡ old.index
  pub moves : PlainMoves (map_of old) (map_of new) (stream_at old) history
