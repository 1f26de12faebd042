use Rattle.std.proofs.Common.{◌≡◌, ◌∙◌, ℕ, [], ◌∷◌, sym, ap, subst}
use Rattle.std.proofs.lemmas.Bool.{true≢false}
use Rattle.lrup_model.specs.Layout.{IsIdentity}
use Rattle.lrup_model.specs.Event.{History, fetch, vacant}
use Rattle.lrup_model.specs.CallerView.{Caller}
use Rattle.lrup_model.specs.Replies.{reply_of}
use Rattle.stream_check.specs.Lookup.{FetchesUpTo}
use Rattle.stream_check.proofs.AskLemmas.{asks_again, asks_once, asks_nothing, not_vacant, gives_of}
use Rattle.stream_check.proofs.lookup.fetch_hint.Goals as goal

pub returns-in-Vacant-clause-asked : goal.returns-in-Vacant-clause-asked
returns-in-Vacant-clause-asked g c =
    let p = g.M.ClauseMap.caller_view c.args.map.now in
    let q = g.M.ClauseMap.caller_view c.fetch.new.self in
    let h = c.args.hint in
    let again = c.fetch_again.ensures.asked in
    let first : History = fetch p.caller.stream h vacant ∷ [] in
    let step = g.met.M.ClauseMap.moves_are_step c.args.map.now c.fetch.new.self first c.in-Vacant.ensures.event in
    let same : q.caller.stream ≡ p.caller.stream = ap (λ (s : Caller). s.stream) step.caller in
    let r = reply_of (g.M.ClauseMap.caller_view c.fetch_again.new.map) c.fetch_again.result in
    let fetches = subst (λ (s : ℕ). FetchesUpTo c.tries_for.result s h (fetch s h vacant ∷ again.0) r) same again.2 in (
      fetch p.caller.stream h vacant ∷ again.0,
      g.met.M.ClauseMap.moves_append c.args.map.now c.fetch.new.self c.fetch_again.new.map first again.0 c.in-Vacant.ensures.event again.1,
      asks_again c.args.params.now h p.caller.stream c.tries_for.result (fetch p.caller.stream h vacant ∷ again.0) r
          (c.covers.ensures.0 c.if-not-covers.false) c.requires.at.stream c.tries_for.ensures fetches,
    )

pub returns-then-not-covers-clause-asked : goal.returns-then-not-covers-clause-asked
returns-then-not-covers-clause-asked g c =
    let s = c.args.params.now in
    let outside : IsIdentity s.layout c.args.hint → ⊥ = λ is. true≢false (sym (c.covers.ensures.1 is) ∙ c.if-not-covers.true) in
    ([], g.met.M.ClauseMap.moves_none c.args.map.now, asks_nothing s c.args.hint outside)

pub returns-in_default-clause-asked : goal.returns-in_default-clause-asked
returns-in_default-clause-asked g c =
    let p = g.M.ClauseMap.caller_view c.args.map.now in
    let n = g.M.ClauseMap.caller_view c.fetch.new.self in
    let r = reply_of n c.fetch.result in
    let is = c.covers.ensures.0 c.if-not-covers.false in
    let once = asks_once c.args.params.now c.args.hint p.caller.stream r is c.requires.at.stream
    (not_vacant n c.fetch.result c.in_default.not-Vacant) in
    (fetch p.caller.stream c.args.hint r ∷ [], c.fetch.ensures.event, once)

pub returns-in_default-clause-gives : goal.returns-in_default-clause-gives
returns-in_default-clause-gives g c =
    gives_of (g.M.ClauseMap.caller_view c.fetch.new.self) c.args.hint c.fetch.result c.fetch.ensures.fetched
    c.fetch.ensures.follow c.fetch.ensures.variables
