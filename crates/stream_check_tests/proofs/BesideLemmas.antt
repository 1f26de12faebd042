-- How another stream's calls change a stream's view of the map that one thread uses.
use Rattle.std.proofs.Common.{◌≡◌, ◌≢◌, ◌<◌, [], ◌∷◌, ℕ, sym, ap, ap₂, subst, ◌∙◌, arith}
use Rattle.lrup_model.specs.Formula.{Cnf}
use Rattle.lrup_model.specs.Layout.{LayoutValue}
use Rattle.lrup_model.specs.Event.{History, fetch}
use Rattle.lrup_model.specs.State.{State}
use Rattle.lrup_model.specs.CallerView.{CallerView, CallerStep}
use Rattle.lrup_model.specs.Replies.{reply_of}
use Rattle.lrup_model.specs.Plain.{Plain, formula_of, plain_caller_view, plain_state, PlainMoves}
use Rattle.lrup_model.specs.lemmas.PlainMoveLemmas.{plain_moves_are_step}
use Rattle.lrup_model.specs.Desk.{map_of, stream_at, plain_desk_caller_view, PlainDeskMoves}
use Rattle.lrup_model.specs.declared.clause_map.Fetched.{Fetched}
use Rattle.lrup_model.specs.declared.plain_map.PlainDesk.{PlainDesk}
use Rattle.lrup_model.specs.lemmas.HistoryLemmas.{run-others}
use Rattle.lrup_model.specs.lemmas.CallerLemmas.{calls_differ}
use Rattle.stream_check_tests.specs.lemmas.StepLemmas.{step_append}

-- for the view of stream s, calls of stream t are a step without events
pub step_beside : (old new : Plain) (s t : ℕ) (es : History) → 0 < s → s ≢ t → PlainMoves old new t es
    → CallerStep (plain_caller_view old s) (plain_caller_view new s) []
step_beside old new s t es positive other moves = record {
  caller = ap₂ (λ (f : Cnf) (p : LayoutValue). record { formula = f; layout = p; stream = s }) moves.formula moves.layout;
  callers = tt;
  room = omega (arith, moves.others s positive other);
  own = λ id owns. ap (λ (m : State). m id) moves.state
      ∙ run-others (formula_of old) old.layout (plain_state old) es s id moves.answers
      (calls_differ s t es (λ same. other (sym same)) moves.callers) owns;
  spelt = moves.spelt;
  follow = λ all. record { each = (moves.follow (record { each = all.each })).each };
}

-- a step without events and then a step with these events are one step with these events
pub step_then : (p q r : CallerView) (es : History) → CallerStep p q [] → CallerStep q r es → CallerStep p r es
step_then p q r es none later = step_append p q r [] es none later

-- a desk's calls lead from its stream's old view of the map to the new one
pub desk_known : (a b : PlainDesk) (m n : Plain) (s : ℕ) (es : History) → PlainDeskMoves a b es → map_of a ≡ m → stream_at a ≡ s
    → n ≡ map_of b → CallerStep (plain_caller_view m s) (plain_caller_view n s) es
desk_known a b m n s es moves before stream following =
    let known : CallerStep (plain_caller_view (map_of a) (stream_at a)) (plain_caller_view (map_of b) (stream_at a)) es =
    plain_moves_are_step (map_of a) (map_of b) (stream_at a) es moves.moves in
    subst (λ (k : ℕ). CallerStep (plain_caller_view m k) (plain_caller_view n k) es) stream
    (subst (λ (x : Plain). CallerStep (plain_caller_view x (stream_at a)) (plain_caller_view n (stream_at a)) es) before
    (subst (λ (x : Plain). CallerStep (plain_caller_view (map_of a) (stream_at a)) (plain_caller_view x (stream_at a)) es)
    (sym following) known))

-- a desk's fetch leads from its stream's old view of the map to the new one
pub desk_fetched : (a b : PlainDesk) (m n : Plain) (s id : ℕ) (answer : Fetched)
    → PlainDeskMoves a b (fetch (stream_at a) id (reply_of (plain_desk_caller_view b) answer) ∷ [])
    → map_of a ≡ m → stream_at a ≡ s → n ≡ map_of b
    → CallerStep (plain_caller_view m s) (plain_caller_view n s) (fetch s id (reply_of (plain_caller_view n s) answer) ∷ [])
desk_fetched a b m n s id answer moves before stream following =
    let event : ℕ → Plain → History = λ k x. fetch k id (reply_of (plain_caller_view x k) answer) ∷ [] in
    let known : CallerStep (plain_caller_view m s) (plain_caller_view n s) (event (stream_at a) (map_of b)) =
    desk_known a b m n s (event (stream_at a) (map_of b)) moves before stream following in
    subst (λ (k : ℕ). CallerStep (plain_caller_view m s) (plain_caller_view n s) (event k n)) stream
    (subst (λ (x : Plain). CallerStep (plain_caller_view m s) (plain_caller_view n s) (event (stream_at a) x)) (sym following) known)
