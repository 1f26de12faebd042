use Rattle.std.proofs.Common.{◌∙◌, ap, sym, subst, ℕ}
use Rattle.lrup_model.specs.Clause.{Clause}
use Rattle.lrup_model.specs.Formula.{Cnf, IsFormulaClause}
use Rattle.lrup_model.specs.CallerView.{CallerView, clip_clause}
use Rattle.checkpoint.proofs.NextLemmas.{clause_at_clip, printed_next}
use Rattle.checkpoint.proofs.next.formula_of.Goals as goal

pub returns-in_err-spell-clause-event : goal.returns-in_err-spell-clause-event
returns-in_err-spell-clause-event g c =
    g.met.M.ClauseMap.moves_append _ _ _ _ _ c.loop-clip.invariant.event c.in_err-spell.ensures.event

pub returns-in_err-push-clause-event : goal.returns-in_err-push-clause-event
returns-in_err-push-clause-event g c =
    g.met.M.ClauseMap.moves_append _ _ _ _ _ c.loop-clip.invariant.event c.in_ok-spell.ensures.event

pub push-requires-clause-clause : goal.push-requires-clause-clause
push-requires-clause-clause g c =
    let view = g.M.ClauseMap.caller_view c.args.map.now in
    let clips = c.args.clips.now in
    let vars = ap (λ (f : Cnf). f.vars) c.loop-clip.invariant.formula in
    let is = c.deref.ensures.value ∙ c.in_ok-spell.ensures.items
    ∙ ap (λ (p : CallerView). clip_clause p c.clip-item.result) c.loop-clip.invariant.stays
    ∙ ap (clip_clause view) c.clip-item.is in
    let clause = clause_at_clip view c.args.vars clips c.loop-clip.clip-index c.clip-item.result c.loop-clip-test.true
    c.requires.clauses in
    subst (λ (n : ℕ). IsFormulaClause n c.deref.result.now) (sym vars)
    (subst (λ (ls : Clause). IsFormulaClause c.args.vars ls) (sym is) clause)

pub loop-clip-preserved : goal.loop-clip-preserved
loop-clip-preserved g c =
    let view = g.M.ClauseMap.caller_view c.args.map.now in
    let is = c.deref.ensures.value ∙ c.in_ok-spell.ensures.items
    ∙ ap (λ (p : CallerView). clip_clause p c.clip-item.result) c.loop-clip.invariant.stays
    ∙ ap (clip_clause view) c.clip-item.is in
    record {
      formula = printed_next view c.args.vars c.args.clips.now c.loop-clip.clip-index c.clip-item.result c.loop-clip.formula
          c.push.new.self
          c.loop-clip-test.true c.loop-clip.invariant.formula (rw (← is) c.in_ok-push.ensures.ok);
      event = g.met.M.ClauseMap.moves_append _ _ _ _ _ c.loop-clip.invariant.event c.in_ok-spell.ensures.event;
      stays = c.in_ok-spell.ensures.stays ∙ c.loop-clip.invariant.stays;
    }
