use Rattle.lrup_model.specs.CallerView.{clip_clause}
use Rattle.propagate.proofs.TakenLemmas.{other-known, same-known}
use Rattle.propagate.proofs.trail.is_same.Goals as goal
use Rattle.propagate.proofs.trail.is_same.Goals.{then-take_clause, else-take_clause}

pub returns-clause-same : goal.returns-clause-same
returns-clause-same g c =
    let d = clip_clause (g.M.ClauseMap.caller_view c.args.map.now) c.args.clip.now in
    elim c.if-take_clause.branch [
      | then-take_clause w ↦ rw w.same-is (same-known c.args.marks.now c.mark_all.new.marks c.take_clause.new.marks d c.args.literals.now
          w.any_marked.result c.mark_all.ensures c.requires.unmarked (c.take_clause.ensures.yes w.if-take_clause.true) w.any_marked.ensures)
      | else-take_clause w ↦ rw (w.same-is, w.if-take_clause.false) (other-known c.args.marks.now c.mark_all.new.marks d c.args.literals.now
          c.mark_all.ensures (c.take_clause.ensures.no w.if-take_clause.false))
    ]
