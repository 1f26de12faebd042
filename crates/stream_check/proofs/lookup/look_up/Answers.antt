use Rattle.std.proofs.Common.{◌≡◌, ◌∙◌, ℕ, false, [], inl, inr, refl, sym, subst}
use Rattle.lrup_model.specs.Event.{Reply, History, vacant, live, retired}
use Rattle.lrup_model.specs.CallerView.{clip_clause}
use Rattle.stream_check.specs.Lookup.{FetchesHint, LooksUp, answer_of}
use Rattle.stream_check.specs.StreamContext.{is_among}
use Rattle.stream_check.specs.internal.CheckerInside.{StreamStateValue}
use Rattle.stream_check.proofs.lookup.look_up.Goals as goal

-- an identity that wasn't dropped is looked up by fetches
by_fetches : (v w : StreamStateValue) (id : ℕ) (es : History) (reply : Reply) → v ≡ w → is_among w.dropped.ids id ≡ false
    → FetchesHint v.params id es reply → LooksUp w.params (is_among w.dropped.ids) id es (answer_of id reply)
by_fetches v w id es reply same kept asked =
    inr (kept, reply, subst (λ (x : StreamStateValue). FetchesHint x.params id es reply) same asked, refl)

pub returns-then-has_dropped-clause-looked : goal.returns-then-has_dropped-clause-looked
returns-then-has_dropped-clause-looked g c =
    ([], g.met.M.ClauseMap.moves_none c.args.map.now, inl (sym c.has_dropped.ensures ∙ c.if-has_dropped.true, refl, refl))

pub returns-in-Vacant-clause-looked : goal.returns-in-Vacant-clause-looked
returns-in-Vacant-clause-looked g c =
    let asked = c.in-Vacant.ensures.asked in
    let kept = sym c.has_dropped.ensures ∙ c.if-has_dropped.false in
    (asked.0, asked.1, by_fetches _ c.args.state.now c.args.id asked.0 vacant c.state.view_is kept asked.2)

pub returns-in-Retired-clause-looked : goal.returns-in-Retired-clause-looked
returns-in-Retired-clause-looked g c =
    let asked = c.in-Retired.ensures.asked in
    let kept = sym c.has_dropped.ensures ∙ c.if-has_dropped.false in
    (asked.0, asked.1, by_fetches _ c.args.state.now c.args.id asked.0 retired c.state.view_is kept asked.2)

pub returns-in-Live-clause-looked : goal.returns-in-Live-clause-looked
returns-in-Live-clause-looked g c =
    let asked = c.in-Live.ensures.asked in
    let kept = sym c.has_dropped.ensures ∙ c.if-has_dropped.false in
    let found : Reply = live (clip_clause (g.M.ClauseMap.caller_view c.fetch_hint.new.map) c.in-Live.clip) in
    (asked.0, asked.1, by_fetches _ c.args.state.now c.args.id asked.0 found c.state.view_is kept asked.2)
