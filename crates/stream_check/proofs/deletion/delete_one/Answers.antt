use Rattle.std.proofs.Common.{[], Err, refl, sym, subst}
use Rattle.stream_check.specs.declared.params.Ownership.{Ownership}
use Rattle.stream_check.specs.declared.line_stop.LineStop.TheVariants as stops
use Rattle.stream_check.specs.declared.fault.Fault.TheVariants as faults
use Rattle.stream_check.specs.internal.Checking.{DeletesByOwnership}
use Rattle.stream_check.proofs.deletion.delete_one.Goals as goal

pub returns-in-Outside-clause-deletes : goal.returns-in-Outside-clause-deletes
returns-in-Outside-clause-deletes g c =
    let h = c.state.inside in
    let outside = subst (λ (ownership : Ownership). DeletesByOwnership ownership h.params c.args.id h.dropped.ids h.dropped.ids []
    (Err (stops.Bad (faults.NotLive c.args.id))))
    (sym c.in-Outside.ensures) (refl, refl, refl) in
    rw (← c.state.view_is) ([], g.met.M.ClauseMap.moves_none c.args.map.now, tt, outside)
