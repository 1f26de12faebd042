use Rattle.std.proofs.Common.{◌∙◌, append-nil, inl, inr}
use Rattle.checkpoint.proofs.saving.save.Goals as goal

pub returns-clause-saves : goal.returns-clause-saves
returns-clause-saves g c =
    let found = c.in_ok-clips.ensures.fetched in
    let events = g.met.M.ClauseMap.moves_append _ _ _ _ _ found.1 c.save_clips.ensures.event in
    let saved = rw (c.deref.ensures.value, c.vars.ensures.vars, found.3.1) at c.save_clips.ensures.saves in (
      found.0,
      rw append-nil at events,
      rw c.last_identity.ensures.last at found.2,
      elim saved [ inl saves ↦ inl (found.3.0 ∙ c.last_identity.ensures.last, saves) | inr memory ↦ inr memory ],
    )
