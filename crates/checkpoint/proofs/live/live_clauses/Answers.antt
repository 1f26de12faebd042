use Rattle.std.proofs.Common.{◌++◌, ◌∷◌, [], ◌+◌, refl, sym, ap, subst, ◌∙◌, append-nil, arith}
use Rattle.lrup_model.specs.Event.{live}
use Rattle.lrup_model.specs.CallerView.{clip_clause}
use Rattle.lrup_model.specs.Replies.{reply_of}
use Rattle.checkpoint.proofs.LiveLemmas.{Found, first_whole, found_none, found_next, kept_wanted, kept_unwanted, kept_none, no_ok}
use Rattle.checkpoint.proofs.live.live_clauses.Goals as goal
use Rattle.checkpoint.proofs.live.live_clauses.Goals.{in-Live+then-wants+in_ok-push-in-Live, in-Live+else-wants, in-Vacant}

pub loop-before-init : goal.loop-before-init
loop-before-init g c =
    let view = g.M.ClauseMap.caller_view c.args.map.now in
    let moves = g.M.ClauseMap.moves c.args.map.now c.args.map.now in
    subst (Found (g.K.Wanted.wants c.args.wanted.now) view view moves 0) (sym c.new-clips.ensures.items)
    (found_none (g.K.Wanted.wants c.args.wanted.now) view moves (g.met.M.ClauseMap.moves_none c.args.map.now))

pub returns-in_err-push-in-Live-clause-fetched : goal.returns-in_err-push-in-Live-clause-fetched
returns-in_err-push-in-Live-clause-fetched g c =
    let wants = g.K.Wanted.wants c.args.wanted.now in
    let view = g.M.ClauseMap.caller_view in
    let moves = g.M.ClauseMap.moves in
    let clip = c.in-Live.clip in
    let found = found_next wants (view c.args.map.now) (view c.loop-before.map) (view c.fetch.new.self)
    (moves c.args.map.now c.loop-before.map) (moves c.args.map.now c.fetch.new.self) c.loop-before.before
    c.loop-before.clips.items (clip ∷ []) (c.loop-before.clips.items ++ clip ∷ []) (live (clip_clause (view c.fetch.new.self) clip))
    c.loop-before.invariant (λ es before. g.met.M.ClauseMap.moves_append _ _ _ _ _ before c.in-Live.ensures.event)
    (g.met.M.ClauseMap.moves_are_step _ _ _ c.in-Live.ensures.event) c.in-Live.ensures.formula c.in-Live.ensures.follow
    (c.in-Live.ensures.fetched.1, tt)
    (kept_wanted wants (view c.fetch.new.self) (c.loop-before.before + 1) clip
    (sym c.wants.ensures ∙ c.if-wants.true) c.in-Live.ensures.fetched.0) refl in
    (found.replies, found.moved, omega (arith, found.count), no_ok c.from_residual.result _ c.from_residual.ensures.0)

pub loop-before-preserved : goal.loop-before-preserved
loop-before-preserved g c =
    let wants = g.K.Wanted.wants c.args.wanted.now in
    let view = g.M.ClauseMap.caller_view in
    let moves = g.M.ClauseMap.moves in
    let before = moves c.args.map.now c.loop-before.map in
    let after = moves c.args.map.now c.fetch.new.self in
    let clips = c.loop-before.clips.items in
    elim c.match-fetch.branch [
      | in-Live+then-wants+in_ok-push-in-Live w ↦
          let clip = w.in-Live.clip in
          found_next wants (view c.args.map.now) (view c.loop-before.map) (view c.fetch.new.self) before after c.loop-before.before
          clips (clip ∷ []) c.match-fetch.clips.items (live (clip_clause (view c.fetch.new.self) clip))
          c.loop-before.invariant (λ es moved. g.met.M.ClauseMap.moves_append _ _ _ _ _ moved w.in-Live.ensures.event)
          (g.met.M.ClauseMap.moves_are_step _ _ _ w.in-Live.ensures.event) w.in-Live.ensures.formula w.in-Live.ensures.follow
          (w.in-Live.ensures.fetched.1, tt)
          (kept_wanted wants (view c.fetch.new.self) (c.loop-before.before + 1) clip
          (sym w.wants.ensures ∙ w.if-wants.true) w.in-Live.ensures.fetched.0)
          (ap (λ v. v.items) w.clips-is ∙ w.in_ok-push-in-Live.ensures.items)
      | in-Live+else-wants w ↦
          let clip = w.in-Live.clip in
          found_next wants (view c.args.map.now) (view c.loop-before.map) (view c.fetch.new.self) before after c.loop-before.before
          clips [] c.match-fetch.clips.items (live (clip_clause (view c.fetch.new.self) clip))
          c.loop-before.invariant (λ es moved. g.met.M.ClauseMap.moves_append _ _ _ _ _ moved w.in-Live.ensures.event)
          (g.met.M.ClauseMap.moves_are_step _ _ _ w.in-Live.ensures.event) w.in-Live.ensures.formula w.in-Live.ensures.follow tt
          (sym (kept_unwanted wants (view c.fetch.new.self) (c.loop-before.before + 1) clip (sym w.wants.ensures ∙ w.if-wants.false)))
          (ap (λ v. v.items) w.clips-is ∙ sym (append-nil clips))
      | in-Vacant w ↦
          found_next wants (view c.args.map.now) (view c.loop-before.map) (view c.fetch.new.self) before after c.loop-before.before
          clips [] c.match-fetch.clips.items (reply_of (view c.fetch.new.self) c.fetch.result)
          c.loop-before.invariant (λ es moved. g.met.M.ClauseMap.moves_append _ _ _ _ _ moved c.fetch.ensures.event)
          (g.met.M.ClauseMap.moves_are_step _ _ _ c.fetch.ensures.event) c.fetch.ensures.formula c.fetch.ensures.follow tt
          (sym (kept_none wants (view c.fetch.new.self) (c.loop-before.before + 1) c.fetch.result w.in-Vacant.is))
          (ap (λ v. v.items) w.clips-is ∙ sym (append-nil clips))
    ]

pub returns-clause-formula : goal.returns-clause-formula
returns-clause-formula g c = λ all within.
    let found = c.loop-before.invariant in
    let caller = (g.M.ClauseMap.caller_view c.args.map.now).caller in
    let whole = first_whole (g.K.Wanted.wants c.args.wanted.now) caller.formula caller.layout.clauses c.loop-before.before found.replies all
    (omega arith) (found.first all) in
    (whole.0, found.entries ∙ whole.1)
