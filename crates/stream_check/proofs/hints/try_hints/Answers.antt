use Rattle.std.proofs.Common.{◌≡◌, ◌∙◌, ℕ, neg_ℤ, Bool, [], ◌∷◌, ◌++◌, refl, ap, subst, append-nil}
use Rattle.std.proofs.lemmas.Result.{err_from_is_err_and}
use Rattle.lrup_model.specs.CallerView.{clip_clause}
use Rattle.propagate.specs.Marks.{Propagation}
use Rattle.stream_check.specs.StreamContext.{is_among}
use Rattle.stream_check.proofs.TryLemmas.{derived_before, variables_before, goes_on, shows_unfound}
use Rattle.stream_check.proofs.TryLemmas.{shows_not_unit, shows_none, shows_conflict}
use Rattle.stream_check.proofs.hints.try_hints.Goals as goal

pub hints-init : goal.hints-init
hints-init g c = record {
  ready = c.requires.ready;
  kept = (refl, refl);
  led = (
    [],
    g.met.M.ClauseMap.moves_none c.args.map.now,
    record {
      clauses = [];
      derived = tt;
      leads = refl;
      found = λ ds rest found. found;
      fails = λ rest fault fails. fails;
    },
  );
}

pub hints-preserved : goal.hints-preserved
hints-preserved g c =
    let s = c.args.state.now.params in
    let p = g.M.ClauseMap.caller_view c.args.map.now in
    let q = g.M.ClauseMap.caller_view c.look_up.new.map in
    let is_dropped : ℕ → Bool = is_among c.args.state.now.dropped.ids in
    let led = c.hints.invariant.led in
    let looked = c.in_ok-clip.ensures.looked in
    let gives = c.in_ok-clip.ensures.gives in
    let step = c.in-Unit.ensures.step in
    let falses : c.hint.new.self.falses ≡ c.hints.marks.falses ++ neg_ℤ step.0 ∷ [] = ap (λ (m : Propagation). m.falses) step.2 in
    let moved = g.met.M.ClauseMap.moves_append c.args.map.now c.hints.map c.look_up.new.map led.0 looked.0 led.1 looked.1 in
    let tried =
    g.met.M.ClauseMap.moves_append c.args.map.now c.look_up.new.map c.hint.new.map (led.0 ++ looked.0) [] moved c.hint.ensures.event in
    let derived = derived_before p q (led.0 ++ looked.0) c.in_ok-clip.clip
    (g.met.M.ClauseMap.moves_are_step c.args.map.now c.look_up.new.map (led.0 ++ looked.0) moved) gives.0 gives.1 in
    record {
      ready = ap (λ (m : Propagation). m.ready) step.2 ∙ c.hints.invariant.ready;
      kept = (
        ap (λ (m : Propagation). m.vars) step.2 ∙ c.hints.invariant.kept.0,
        ap (λ (m : Propagation). m.clause) step.2 ∙ c.hints.invariant.kept.1,
      );
      led = (
        led.0 ++ looked.0,
        rw (append-nil (led.0 ++ looked.0)) at tried,
        rw falses
            (goes_on s is_dropped p.caller.formula c.args.marks.now.falses c.hints.marks.falses c.args.hints.now c.in-Some.hint.now
            c.hints.left.now c.in-Some.rest.now led.0 looked.0 c.in-Some.ensures.cases.0 led.2 (clip_clause q c.in_ok-clip.clip) looked.2
            step.0 derived step.1),
      );
    }

pub returns-in-Conflict-clause-shown : goal.returns-in-Conflict-clause-shown
returns-in-Conflict-clause-shown g c =
    let s = c.args.state.now.params in
    let p = g.M.ClauseMap.caller_view c.args.map.now in
    let q = g.M.ClauseMap.caller_view c.look_up.new.map in
    let is_dropped : ℕ → Bool = is_among c.args.state.now.dropped.ids in
    let led = c.hints.invariant.led in
    let looked = c.in_ok-clip.ensures.looked in
    let gives = c.in_ok-clip.ensures.gives in
    let moved = g.met.M.ClauseMap.moves_append c.args.map.now c.hints.map c.look_up.new.map led.0 looked.0 led.1 looked.1 in
    let tried =
    g.met.M.ClauseMap.moves_append c.args.map.now c.look_up.new.map c.hint.new.map (led.0 ++ looked.0) [] moved c.hint.ensures.event in
    let caller_step = g.met.M.ClauseMap.moves_are_step c.args.map.now c.look_up.new.map (led.0 ++ looked.0) moved in
    let derived = derived_before p q (led.0 ++ looked.0) c.in_ok-clip.clip caller_step gives.0 gives.1 in
    let variables = variables_before s p q (led.0 ++ looked.0) c.requires.at caller_step gives.2 in
    let shown = shows_conflict s is_dropped p.caller.formula c.args.marks.now.falses c.hints.marks.falses c.args.hints.now
    c.in-Some.hint.now
    c.hints.left.now c.in-Some.rest.now led.0 looked.0 c.in-Some.ensures.cases.0 led.2 (clip_clause q c.in_ok-clip.clip) looked.2
    c.requires.consistent derived variables c.in-Conflict.ensures.step.0 in (
      led.0 ++ looked.0,
      rw (append-nil (led.0 ++ looked.0)) at tried,
      rw c.excess.ensures shown,
    )

pub returns-in-NotUnit-clause-shown : goal.returns-in-NotUnit-clause-shown
returns-in-NotUnit-clause-shown g c =
    let s = c.args.state.now.params in
    let p = g.M.ClauseMap.caller_view c.args.map.now in
    let q = g.M.ClauseMap.caller_view c.look_up.new.map in
    let is_dropped : ℕ → Bool = is_among c.args.state.now.dropped.ids in
    let led = c.hints.invariant.led in
    let looked = c.in_ok-clip.ensures.looked in
    let step = c.in-NotUnit.ensures.step in
    let moved = g.met.M.ClauseMap.moves_append c.args.map.now c.hints.map c.look_up.new.map led.0 looked.0 led.1 looked.1 in
    let tried =
    g.met.M.ClauseMap.moves_append c.args.map.now c.look_up.new.map c.hint.new.map (led.0 ++ looked.0) [] moved c.hint.ensures.event in (
      led.0 ++ looked.0,
      subst (g.M.ClauseMap.moves c.args.map.now c.hint.new.map) (append-nil (led.0 ++ looked.0)) tried,
      shows_not_unit s is_dropped p.caller.formula c.args.marks.now.falses c.hints.marks.falses c.args.hints.now c.in-Some.hint.now
          c.hints.left.now c.in-Some.rest.now led.0 looked.0 c.in-Some.ensures.cases.0 led.2
          (clip_clause q c.in_ok-clip.clip) looked.2 step.0 step.1,
    )

pub returns-in_err-clip-clause-shown : goal.returns-in_err-clip-clause-shown
returns-in_err-clip-clause-shown g c =
    let s = c.args.state.now.params in
    let f = (g.M.ClauseMap.caller_view c.args.map.now).caller.formula in
    let is_dropped : ℕ → Bool = is_among c.args.state.now.dropped.ids in
    let led = c.hints.invariant.led in
    let looked = c.in_err-clip.ensures.looked in
    let given = err_from_is_err_and c.from_residual.result c.from_residual.ensures.1 in (
      led.0 ++ looked.0,
      g.met.M.ClauseMap.moves_append c.args.map.now c.hints.map c.look_up.new.map led.0 looked.0 led.1 looked.1,
      rw (given.1, given.2) (shows_unfound s is_dropped f c.args.marks.now.falses c.hints.marks.falses c.args.hints.now c.in-Some.hint.now
          c.hints.left.now c.in-Some.rest.now led.0 looked.0 c.in-Some.ensures.cases.0 led.2 c.in_err-clip.field-0.0 looked.2),
    )

pub returns-clause-shown : goal.returns-clause-shown
returns-clause-shown g c =
    let f = (g.M.ClauseMap.caller_view c.args.map.now).caller.formula in
    let is_dropped : ℕ → Bool = is_among c.args.state.now.dropped.ids in
    let led = c.hints.invariant.led in (
      led.0,
      led.1,
      shows_none c.args.state.now.params is_dropped f c.args.marks.now.falses c.args.hints.now c.hints.marks.falses c.hints.left.now led.0
          c.in_default.ensures.cases led.2,
    )
