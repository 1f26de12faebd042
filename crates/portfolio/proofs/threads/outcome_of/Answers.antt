use Rattle.std.proofs.Common.{◌≡◌, ◌∙◌, List, length, drop, sym, ap, subst}
use Rattle.lrup_model.specs.Pass.{AreSynced}
use Rattle.clause_store.specs.Passes.{ShareHistory, PassValue, views}
use Rattle.stream_threads.specs.Jobs.{StreamResultsValue}
use Rattle.stream_check.specs.lemmas.ListLemmas.{written_back}
use Rattle.portfolio.proofs.threads.outcome_of.Goals as goal

pub returns-clause-synced : goal.returns-clause-synced
returns-clause-synced g c =
    let passes = c.found.inside.passes in
    let synced = c.meet_all.new.passes in
    let back = written_back passes.len synced (drop (length synced) passes.items) (c.meet_all.auto.passes ∙ c.deref_mut.ensures.len) in
    let met : c.deref_mut.result.now ≡ c.args.found.passes =
    c.deref_mut.ensures.value ∙ ap (λ (found : StreamResultsValue g.row.R.Denot). found.passes) c.found.view_is in
    subst (λ (ps : List PassValue). AreSynced (views c.args.found.passes) (views ps)) (sym back)
    (subst (λ (ps : List PassValue). AreSynced (views ps) (views synced)) met c.meet_all.ensures.synced)

pub returns-clause-one : goal.returns-clause-one
returns-clause-one g c =
    let passes = c.found.inside.passes in
    let synced = c.meet_all.new.passes in
    let back = written_back passes.len synced (drop (length synced) passes.items) (c.meet_all.auto.passes ∙ c.deref_mut.ensures.len) in
    subst (λ (ps : List PassValue). ShareHistory (views ps)) (sym back) c.meet_all.ensures.one
