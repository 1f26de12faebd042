use Rattle.std.proofs.Common.{[], ◌∷◌, refl, ap, arith}
use Rattle.lrup_model.specs.Event.{History, retire}
use Rattle.lrup_model.specs.declared.clause_map.Retired.TheVariants as retiring
use Rattle.stream_check.specs.internal.CheckerInside.{StreamStateValue, deleted_at}
use Rattle.stream_check.proofs.deletion.retire_own.Goals as goal

pub returns-in-Done-clause-deletes : goal.returns-in-Done-clause-deletes
returns-in-Done-clause-deletes g c =
    let es : History = retire (g.M.ClauseMap.caller_view c.args.map.now).caller.stream c.args.id retiring.Done ∷ [] in (
      es,
      c.in-Done.ensures.event,
      (tt, tt),
      (
        ap (λ s. retire s c.args.id retiring.Done ∷ []) c.requires.at.stream,
        ap (λ (v : StreamStateValue). v.dropped.ids) c.count_retired.ensures,
      ),
    )

pub returns-in-Done-clause-count : goal.returns-in-Done-clause-count
returns-in-Done-clause-count g c =
    omega (arith, ap deleted_at c.count_retired.ensures)

pub returns-in-NotLive-clause-deletes : goal.returns-in-NotLive-clause-deletes
returns-in-NotLive-clause-deletes g c =
    let es : History = retire (g.M.ClauseMap.caller_view c.args.map.now).caller.stream c.args.id retiring.NotLive ∷ [] in
    (es, c.in-NotLive.ensures.event, (tt, tt), (ap (λ s. retire s c.args.id retiring.NotLive ∷ []) c.requires.at.stream, refl, refl))

pub returns-in-NotLive-clause-count : goal.returns-in-NotLive-clause-count
returns-in-NotLive-clause-count g c = omega arith
