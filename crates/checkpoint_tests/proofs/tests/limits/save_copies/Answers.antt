use Rattle.std.proofs.Common.{◌≡◌, replicate, sym, subst, ◌∙◌}
use Rattle.std.specs.List.{AllByRecursion}
use Rattle.lrup_model.specs.Entailment.{IsDerived}
use Rattle.lrup_model.specs.lemmas.PassLemmas.{known_follows}
use Rattle.lrup_model.specs.CallerView.{IsKnown}
use Rattle.checkpoint.specs.Live.{clauses_of, entries_of}
use Rattle.checkpoint_tests.proofs.Copies.{All-replicate, All-clauses}
use Rattle.checkpoint_tests.proofs.tests.limits.save_copies.Goals as goal

pub save_clips-requires-clause-known : goal.save_clips-requires-clause-known
save_clips-requires-clause-known g c =
    let view = g.M.ClauseMap.caller_view c.fetch.new.self in
    let clip = c.in-Live.clip in
    let items : c.in_ok-copies.copies.items ≡ replicate c.args.count clip = c.in_ok-copies.ensures.items_if_clones_equal (λ y same. same) in
    subst (AllByRecursion (IsKnown view)) (sym (c.deref.ensures.value ∙ items))
    (All-replicate (IsKnown view) c.args.count clip c.in-Live.ensures.fetched.1)

pub save_clips-requires-clause-follow : goal.save_clips-requires-clause-follow
save_clips-requires-clause-follow g c =
    let view = g.M.ClauseMap.caller_view c.fetch.new.self in
    let clip = c.in-Live.clip in
    let items : c.in_ok-copies.copies.items ≡ replicate c.args.count clip = c.in_ok-copies.ensures.items_if_clones_equal (λ y same. same) in
    subst (λ clips. AllByRecursion (IsDerived view.caller.formula) (clauses_of (entries_of view clips)))
    (sym (c.deref.ensures.value ∙ items))
    (All-clauses view (IsDerived view.caller.formula) c.args.count clip
    (known_follows view clip c.in-Live.ensures.follow c.in-Live.ensures.fetched.1))
