-- A desk, which is a pass and its store, as a clause map (this project's own).
use Rattle.std.specs.Prelude.{◌≡◌}
use Rattle.lrup_model.specs.Event.{History}
use Rattle.lrup_model.specs.CallerView.{CallerView}
use Rattle.lrup_model.specs.Pass.{PassMoves, pass_caller_view}
use Rattle.clause_store.specs.Passes.{store_of}
use Rattle.clause_store.specs.declared.desk.Desk.{Desk}

abbrev pub desk_caller_view : Desk → CallerView
desk_caller_view desk = pass_caller_view desk.pass.view

-- The desk has the same store as before, and its pass has made these calls.
pub record DeskMoves (old new : Desk) (history : History) : Type 0 where
  pub store : store_of new.pass ≡ store_of old.pass
  pub moves : PassMoves old.pass.view new.pass.view history
