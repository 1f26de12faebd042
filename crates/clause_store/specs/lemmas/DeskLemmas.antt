-- Lemmas about desks of the store.
use Rattle.std.specs.Prelude.{◌++◌, []}
use Rattle.std.proofs.Common.{refl, ◌∙◌}
use Rattle.lrup_model.specs.Event.{History}
use Rattle.lrup_model.specs.CallerView.{CallerStep}
use Rattle.lrup_model.specs.lemmas.PassLemmas.{moves_none, moves_append, moves_are_step}
use Rattle.clause_store.specs.declared.desk.Desk.{Desk}
use Rattle.clause_store.specs.Desks.{desk_caller_view, DeskMoves}

-- The laws of a caller's view, for a desk.
pub desk_none : (d : Desk) → DeskMoves d d []
desk_none d = record { store = refl; moves = moves_none d.pass.view }

pub desk_append : (a b c : Desk) (es fs : History) → DeskMoves a b es → DeskMoves b c fs
    → DeskMoves a c (es ++ fs)
desk_append a b c es fs h k = record {
  store = k.store ∙ h.store;
  moves = moves_append a.pass.view b.pass.view c.pass.view es fs h.moves k.moves;
}

pub desk_step : (a b : Desk) (es : History) → DeskMoves a b es
    → CallerStep (desk_caller_view a) (desk_caller_view b) es
desk_step a b es h = moves_are_step a.pass.view b.pass.view es h.moves
