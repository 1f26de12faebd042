-- Lemmas about desks for the clause map of one thread.
use Rattle.std.specs.Prelude.{◌+◌, ◌++◌, []}
use Rattle.std.proofs.Common.{refl, subst, sym, ◌∙◌}
use Rattle.lrup_model.specs.Event.{History}
use Rattle.lrup_model.specs.CallerView.{CallerStep}
use Rattle.lrup_model.specs.Plain.{plain_caller_view, PlainMoves}
use Rattle.lrup_model.specs.declared.plain_map.PlainDesk.{PlainDesk}
use Rattle.lrup_model.specs.lemmas.PlainMoveLemmas.{plain_moves_none, plain_moves_append, plain_moves_are_step}
use Rattle.lrup_model.specs.Desk.{stream_at, map_of, plain_desk_caller_view, PlainDeskMoves}

-- The laws of a caller's view, for a desk.
pub plain_desk_none : (d : PlainDesk) → PlainDeskMoves d d []
plain_desk_none d = record { same = refl; index = refl; moves = plain_moves_none (map_of d) (stream_at d) }

pub plain_desk_append : (a b c : PlainDesk) (es fs : History)
    → PlainDeskMoves a b es → PlainDeskMoves b c fs → PlainDeskMoves a c (es ++ fs)
plain_desk_append a b c es fs h k = record {
  same = k.same ∙ h.same;
  index = k.index ∙ h.index;
  moves = plain_moves_append (map_of a) (map_of b) (map_of c) (stream_at a) es fs h.moves (subst (λ i. PlainMoves (map_of b) (map_of c) (i + 1) fs) h.index k.moves);
}

pub plain_desk_step : (a b : PlainDesk) (es : History) → PlainDeskMoves a b es
    → CallerStep (plain_desk_caller_view a) (plain_desk_caller_view b) es
plain_desk_step a b es h = subst (λ i. CallerStep (plain_desk_caller_view a) (plain_caller_view (map_of b) (i + 1)) es) (sym h.index) (plain_moves_are_step (map_of a) (map_of b) (stream_at a) es h.moves)
