use Rattle.std.proofs.Common.{◌≡◌, ℕ, [], ◌∷◌, ◌++◌, ap, subst}
use Rattle.std.specs.Prelude.{replicate}
use Rattle.lrup_model.specs.Event.{History, fetch, vacant}
use Rattle.lrup_model.specs.CallerView.{Caller}
use Rattle.lrup_model.specs.Replies.{reply_of}
use Rattle.stream_check.proofs.TryLemmas.{replicate-more}
use Rattle.stream_check.proofs.AskLemmas.{again_found, again_vacant, not_vacant, gives_of}
use Rattle.stream_check.proofs.lookup.fetch_again.Goals as goal

pub returns-in_default-clause-asked : goal.returns-in_default-clause-asked
returns-in_default-clause-asked g c =
    let p = g.M.ClauseMap.caller_view c.args.map.now in
    let q = g.M.ClauseMap.caller_view c.loop-before.map in
    let n = g.M.ClauseMap.caller_view c.fetch.new.self in
    let k = c.loop-before.before in
    let r = reply_of n c.fetch.result in
    let front : History = replicate k (fetch p.caller.stream c.args.id vacant) in
    let step = g.met.M.ClauseMap.moves_are_step c.args.map.now c.loop-before.map front c.loop-before.invariant in
    let same : q.caller.stream ≡ p.caller.stream = ap (λ (s : Caller). s.stream) step.caller in
    let last : g.M.ClauseMap.moves c.loop-before.map c.fetch.new.self (fetch p.caller.stream c.args.id r ∷ []) =
    subst (λ (s : ℕ). g.M.ClauseMap.moves c.loop-before.map c.fetch.new.self (fetch s c.args.id r ∷ [])) same c.fetch.ensures.event in (
      front ++ fetch p.caller.stream c.args.id r ∷ [],
      g.met.M.ClauseMap.moves_append c.args.map.now c.loop-before.map c.fetch.new.self front
          (fetch p.caller.stream c.args.id r ∷ []) c.loop-before.invariant last,
      again_found c.args.most k p.caller.stream c.args.id r c.loop-before-test.true (not_vacant n c.fetch.result c.in_default.not-Vacant),
    )

pub returns-clause-asked : goal.returns-clause-asked
returns-clause-asked g c =
    let s = (g.M.ClauseMap.caller_view c.args.map.now).caller.stream in
    let k = c.loop-before.before in (
      replicate k (fetch s c.args.id vacant),
      c.loop-before.invariant,
      again_vacant c.args.most k s c.args.id c.loop-before.auto.before-end c.loop-before-test.false,
    )

pub returns-in_default-clause-gives : goal.returns-in_default-clause-gives
returns-in_default-clause-gives g c = gives_of (g.M.ClauseMap.caller_view c.fetch.new.self) c.args.id c.fetch.result c.fetch.ensures.fetched
    c.fetch.ensures.follow c.fetch.ensures.variables

pub loop-before-init : goal.loop-before-init
loop-before-init g c = g.met.M.ClauseMap.moves_none c.args.map.now

pub loop-before-preserved : goal.loop-before-preserved
loop-before-preserved g c =
    let s = (g.M.ClauseMap.caller_view c.args.map.now).caller.stream in
    let front : History = replicate c.loop-before.before (fetch s c.args.id vacant) in
    let step = g.met.M.ClauseMap.moves_are_step c.args.map.now c.loop-before.map front c.loop-before.invariant in
    let last = rw (ap (λ (r : Caller). r.stream) step.caller) at c.in-Vacant.ensures.event in
    rw (replicate-more c.loop-before.before (fetch s c.args.id vacant))
    at (g.met.M.ClauseMap.moves_append c.args.map.now c.loop-before.map c.fetch.new.self front (fetch s c.args.id vacant ∷ [])
    c.loop-before.invariant last)
