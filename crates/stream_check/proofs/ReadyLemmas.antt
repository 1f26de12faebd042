-- When a checker can be fed: on a map that was just opened, and still after other streams' calls.
use Rattle.std.proofs.Common.{◌≢◌, ◌≡◌, ℕ, sym, ap, ap₂, subst, ◌∙◌}
use Rattle.std.specs.List.{AllByRecursion}
use Rattle.lrup_model.specs.Formula.{Cnf}
use Rattle.lrup_model.specs.Layout.{LayoutValue, Owns}
use Rattle.lrup_model.specs.State.{State, run}
use Rattle.lrup_model.specs.CallerView.{Caller, CallerView}
use Rattle.lrup_model.specs.Plain.{plain_caller_view}
use Rattle.lrup_model.specs.lemmas.HistoryLemmas.{opening-owned, vacant_above_stays}
use Rattle.lrup_model.specs.lemmas.CallerLemmas.{calls_differ}
use Rattle.lrup_model.specs.History.{LegalFrom}
use Rattle.lrup_model.specs.Event.{History, stream_of, own}
use Rattle.stream_check.specs.Checker.{IsReadyAt}
use Rattle.stream_check.specs.CheckerValue.{CheckerValue}
use Rattle.stream_check.specs.StreamParams.{StreamParams}
use Rattle.stream_check.specs.Laws.{ReadyNew, ReadyBeside}

pub ready_new : ReadyNew
ready_new f layout cube stream tries v p new fits caller own = record {
  at = record {
    layout = ap (λ (c : Caller). c.layout) caller ∙ sym (ap (λ (c : StreamParams). c.layout) new.params);
    stream = ap (λ (c : Caller). c.stream) caller ∙ sym (ap (λ (c : StreamParams). c.stream) new.params);
  };
  vacant = λ id owns above.
      let here = subst (λ (c : Caller). Owns c.layout c.stream id) caller owns in own id here ∙ opening-owned f layout stream id fits here;
}

-- a checker can still be fed after legal events of other streams, if its stream's own identities
-- are as these events leave them
pub ready_stays : (v : CheckerValue) (p q : CallerView) (es : History)
    → IsReadyAt v p → q.caller ≡ p.caller
    → LegalFrom p.caller.formula p.caller.layout p.own es
    → AllByRecursion (λ e. stream_of e ≢ p.caller.stream) es
    → ((id : ℕ) → Owns p.caller.layout p.caller.stream id → q.own id ≡ run p.own es id)
    → IsReadyAt v q
ready_stays v p q es ready same legal others own =
    let before : (id : ℕ) → Owns q.caller.layout q.caller.stream id → Owns p.caller.layout p.caller.stream id =
    λ id owns. subst (λ (c : Caller). Owns c.layout c.stream id) same owns in
    record {
      at = record {
        layout = ap (λ (c : Caller). c.layout) same ∙ ready.at.layout;
        stream = ap (λ (c : Caller). c.stream) same ∙ ready.at.stream;
      };
      vacant = λ id owns above. own id (before id owns)
          ∙ vacant_above_stays p.caller.formula p.caller.layout p.own es p.caller.stream v.last
          legal others ready.vacant id (before id owns) above;
    }

pub ready_beside : ReadyBeside
ready_beside v old new t es ready moves other =
    let s = v.params.stream in
    ready_stays v (plain_caller_view old s) (plain_caller_view new s) es ready
    (ap₂ (λ (f : Cnf) (p : LayoutValue). record { formula = f; layout = p; stream = s }) moves.formula moves.layout)
    moves.answers (calls_differ s t es other moves.callers) (λ id owns. ap (λ (m : State). m id) moves.state)
