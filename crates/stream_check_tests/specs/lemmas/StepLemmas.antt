-- The laws of a caller's view, for a clause map whose moves are determined by their events.
use Rattle.std.specs.Prelude.{◌≡◌, ◌+◌, ◌++◌, ℕ, [], ◌∷◌}
use Rattle.std.specs.List.{AllByRecursion}
use Rattle.std.proofs.Common.{refl, sym, ap, subst, ◌∙◌, arith}
use Rattle.lrup_model.specs.Layout.{Owns}
use Rattle.lrup_model.specs.Event.{History, stream_of, spent}
use Rattle.lrup_model.specs.State.{State, after, run}
use Rattle.lrup_model.specs.CallerView.{Caller, CallerView, CallerStep}
use Rattle.lrup_model.specs.lemmas.RunningLemmas.{run-append, spent-append, callers-append}
use Rattle.lrup_model.specs.lemmas.HistoryLemmas.{after-agrees}

-- states that agree at an identity agree there after the same events
run_agrees : (m n : State) (h : History) (id : ℕ) → m id ≡ n id → run m h id ≡ run n h id
run_agrees m n [] id agree = agree
run_agrees m n (e ∷ h) id agree = run_agrees (after m e) (after n e) h id (after-agrees m n e id agree)

pub step_none : (p : CallerView) → CallerStep p p []
step_none p = record {
  caller = refl;
  callers = tt;
  room = omega arith;
  own = λ id owns. refl;
  spelt = λ id stored there. there;
  follow = λ all. all;
}

pub step_append : (p q r : CallerView) (es fs : History) → CallerStep p q es → CallerStep q r fs
    → CallerStep p r (es ++ fs)
step_append p q r es fs first later =
    let stream : q.caller.stream ≡ p.caller.stream = ap (λ (c : Caller). c.stream) first.caller in
    record {
      caller = later.caller ∙ first.caller;
      callers = callers-append p.caller.stream es fs first.callers (subst (λ (s : ℕ). AllByRecursion (λ e. stream_of e ≡ s) fs) stream later.callers);
      room =
          let last : r.room + spent p.caller.stream fs ≡ q.room = subst (λ (s : ℕ). r.room + spent s fs ≡ q.room) stream later.room in
          omega (arith, last, first.room, spent-append p.caller.stream es fs);
      own = λ id owns.
          let owned : Owns q.caller.layout q.caller.stream id = subst (λ (c : Caller). Owns c.layout c.stream id) (sym first.caller) owns in
          later.own id owned ∙ run_agrees q.own (run p.own es) fs id (first.own id owns) ∙ ap (λ (m : State). m id) (sym (run-append p.own es fs));
      spelt = λ id stored there. later.spelt id stored (first.spelt id stored there);
      follow = λ all. later.follow (first.follow all);
    }
