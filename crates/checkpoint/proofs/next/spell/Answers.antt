use Rattle.std.proofs.Common.{◌++◌, ◌∷◌, [], ap, sym, ◌∙◌, add-one, take}
use Rattle.lrup_model.specs.lemmas.ClauseLemmas.{take-next}
use Rattle.lrup_model.specs.CallerView.{clip_clause}
use Rattle.checkpoint.proofs.next.spell.Goals as goal

pub returns-in_err-push-clause-event : goal.returns-in_err-push-clause-event
returns-in_err-push-clause-event g c =
    g.met.M.ClauseMap.moves_append _ _ _ _ _ c.loop-k.invariant.event c.literal-lit.ensures.event

pub loop-k-preserved : goal.loop-k-preserved
loop-k-preserved g c =
    let clause = clip_clause (g.M.ClauseMap.caller_view c.args.map.now) c.args.clip.now in
    let k = c.loop-k.k in
    let at = rw c.loop-k.invariant.stays at c.literal-lit.ensures.value in
    record {
      items = c.in_ok-push.ensures.items ∙ ap (λ ls. ls ++ c.literal-lit.result ∷ []) c.loop-k.invariant.items
          ∙ sym (ap (λ n. take n clause) (add-one k) ∙ take-next clause k c.literal-lit.result at);
      event = g.met.M.ClauseMap.moves_append _ _ _ _ _ c.loop-k.invariant.event c.literal-lit.ensures.event;
      stays = c.literal-lit.ensures.stays ∙ c.loop-k.invariant.stays;
    }
