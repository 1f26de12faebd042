use Rattle.std.proofs.Common.{◌≡◌, ◌++◌, ◌∷◌, [], sym, subst, ap, length, refl, arith}
use Rattle.std.proofs.lemmas.Result.{err_from_is_err_and}
use Rattle.lrup_model.specs.Clause.{Clause, IsTautology}
use Rattle.lrup_model.specs.Event.{Event}
use Rattle.lrup_model.specs.declared.clause_map.Published.TheVariants as publishing
use Rattle.propagate.specs.Marks.{Propagation}
use Rattle.stream_check.specs.StreamContext.{StreamContext}
use Rattle.stream_check.specs.Additions.{published_by}
use Rattle.stream_check.specs.internal.Checking.{IsFetch}
use Rattle.stream_check.specs.internal.CheckerInside.{context_at}
use Rattle.stream_check.specs.lemmas.EventLemmas.{found_all}
use Rattle.stream_check.proofs.AddLemmas.{owns_at, still_at, room_stays, clause_is, shown_is, publishable, still_vacant, published_is}
use Rattle.stream_check.proofs.AddLemmas.{fails_before, fails_after, valid_is}
use Rattle.stream_check.proofs.addition.LineScratch.add.Goals as goal

pub returns-in_err-admit-clause-judged : goal.returns-in_err-admit-clause-judged
returns-in_err-admit-clause-judged g c =
    let st : StreamContext = context_at c.args.state.now (g.M.ClauseMap.caller_view c.args.map.now).room in
    let given = err_from_is_err_and c.from_residual.result c.from_residual.ensures.1 in
    rw (given.1, given.2) (
      [],
      g.met.M.ClauseMap.moves_none c.args.map.now,
      (
        refl,
        fails_before c.args.state.now.params st c.args.id c.args.lits.now c.in_err-admit.field-0.0 _ c.in_err-admit.ensures.admitted,
      ),
    )

pub returns-in_err-try_hints-clause-judged : goal.returns-in_err-try_hints-clause-judged
returns-in_err-try_hints-clause-judged g c =
    let st : StreamContext = context_at c.args.state.now (g.M.ClauseMap.caller_view c.args.map.now).room in
    let admits = c.in_ok-admit.ensures.admitted in
    let shown = c.in_err-try_hints.ensures.shown in
    let fault = c.in_err-try_hints.field-0.0 in
    let fails = rw (ap (λ (m : Propagation). m.falses) admits.marks_are) at shown.2 in
    let given = err_from_is_err_and c.from_residual-in_err-try_hints.result c.from_residual-in_err-try_hints.ensures.1 in
    rw (given.1, given.2) (
      shown.0,
      shown.1,
      (refl, fails_after c.args.state.now.params st c.args.id c.args.lits.now shown.0 fault _ c.admit.new.self.marks admits fails),
    )

pub try_hints-requires-clause-ready : goal.try_hints-requires-clause-ready
try_hints-requires-clause-ready g c = ap (λ (m : Propagation). m.ready) c.in_ok-admit.ensures.admitted.marks_are

pub try_hints-requires-clause-variables : goal.try_hints-requires-clause-variables
try_hints-requires-clause-variables g c = omega (arith, ap (λ (m : Propagation). m.vars) c.in_ok-admit.ensures.admitted.marks_are)

pub try_hints-requires-clause-consistent : goal.try_hints-requires-clause-consistent
try_hints-requires-clause-consistent g c =
    let admits = c.in_ok-admit.ensures.admitted in
    subst (λ (d : Clause). ¬ IsTautology d) (sym (ap (λ (m : Propagation). m.falses) admits.marks_are)) admits.consistent

pub publish-requires : goal.publish-requires
publish-requires g c =
    let p = g.M.ClauseMap.caller_view c.args.map.now in
    let q = g.M.ClauseMap.caller_view c.try_hints.new.map in
    let s = c.args.state.now.params in
    let st : StreamContext = context_at c.args.state.now p.room in
    let admits = c.in_ok-admit.ensures.admitted in
    let shown = c.in_ok-try_hints.ensures.shown in
    let step = g.met.M.ClauseMap.moves_are_step c.args.map.now c.try_hints.new.map shown.0 shown.1 in
    let is = clause_is s st c.args.id c.args.lits.now c.admit.new.self.marks c.try_hints.new.marks c.clause.result.now admits
    c.try_hints.ensures.kept c.clause.ensures in
    let good =
    shown_is s st st.is_dropped p.caller.formula c.args.id c.args.lits.now c.args.hints.now c.admit.new.self.marks shown.0 admits shown.2 in
    let quiet = found_all s IsFetch (λ h r. tt) st.is_dropped c.args.hints.now shown.2.0 shown.0 shown.2.4 in
    record {
      owns = owns_at s q c.args.id (still_at s p q shown.0 c.requires.at step) admits.owns;
      clause = rw is (publishable s p q st st.is_dropped shown.0 c.args.id c.args.lits.now c.args.hints.now c.admit.new.self.marks step
          admits c.requires.count good);
      room = omega (arith, ap length is, room_stays p q shown.0 step quiet, admits.fits);
    }

pub unreachable-requires : goal.unreachable-requires
unreachable-requires g c =
    let p = g.M.ClauseMap.caller_view c.args.map.now in
    let q = g.M.ClauseMap.caller_view c.try_hints.new.map in
    let admits = c.in_ok-admit.ensures.admitted in
    let shown = c.in_ok-try_hints.ensures.shown in
    let step = g.met.M.ClauseMap.moves_are_step c.args.map.now c.try_hints.new.map shown.0 shown.1 in
    let done : c.publish.result ≡ publishing.Done =
    c.publish.ensures.done.1 (still_vacant c.args.state.now.params p q shown.0 c.args.state.now.last c.args.id c.requires.at step
    (found_all c.args.state.now.params IsFetch (λ h r. tt) _ _ shown.2.0 shown.0 shown.2.4) c.requires.vacant admits.owns admits.above) in
    let taken = c.in-Taken.is in
    cc

pub returns-clause-judged : goal.returns-clause-judged
returns-clause-judged g c =
    let p = g.M.ClauseMap.caller_view c.args.map.now in
    let q = g.M.ClauseMap.caller_view c.try_hints.new.map in
    let s = c.args.state.now.params in
    let st : StreamContext = context_at c.args.state.now p.room in
    let admits = c.in_ok-admit.ensures.admitted in
    let shown = c.in_ok-try_hints.ensures.shown in
    let step = g.met.M.ClauseMap.moves_are_step c.args.map.now c.try_hints.new.map shown.0 shown.1 in
    let is = clause_is s st c.args.id c.args.lits.now c.admit.new.self.marks c.try_hints.new.marks c.clause.result.now admits
    c.try_hints.ensures.kept c.clause.ensures in
    let good =
    shown_is s st st.is_dropped p.caller.formula c.args.id c.args.lits.now c.args.hints.now c.admit.new.self.marks shown.0 admits shown.2 in
    let e : Event = published_by s c.args.id c.args.lits.now in
    let last : g.M.ClauseMap.moves c.try_hints.new.map c.publish.new.self (e ∷ []) =
    rw (published_is s p q shown.0 c.args.id c.clause.result.now c.args.lits.now c.publish.result c.requires.at step is c.in-Done.is)
    at c.publish.ensures.event in (
      shown.0 ++ e ∷ [],
      g.met.M.ClauseMap.moves_append c.args.map.now c.try_hints.new.map c.publish.new.self shown.0 (e ∷ []) shown.1 last,
      (shown.0, valid_is s st p.caller.formula c.args.id c.args.lits.now c.args.hints.now shown.0 c.admit.new.self.marks admits good, refl),
    )
