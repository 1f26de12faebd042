use Rattle.std.proofs.Common.{◌≡◌, ◌∙◌, Result, Err, length, subst, ap, arith}
use Rattle.std.specs.Prelude.{◌↔◌}
use Rattle.lrup_model.specs.Layout.{IsFault, IsLayout, LayoutValue}
use Rattle.lrup_model.specs.declared.layout.LayoutFault.{LayoutFault}
use Rattle.stream_check.specs.Readings.{readers_view}
use Rattle.stream_check.specs.Streams.{RunParamsValue}
use Rattle.run_outcome.specs.Outcomes.{layout_of}
use Rattle.run_outcome.specs.declared.outcome.RunFault.{RunFault}
use Rattle.run_outcome.specs.declared.outcome.RunFault.TheVariants.{Layout}
use Rattle.run_outcome.specs.lemmas.RunLemmas.{is_memory, no_threads, not_layout, run_params_made}
use Rattle.portfolio.proofs.ConsistencyLemmas.{HaveReadyJobs, run_ready}
use Rattle.portfolio.proofs.FaultLemmas.{no_layout_fault}
use Rattle.portfolio.proofs.threads.store_and_jobs.Given as given
use Rattle.portfolio.proofs.threads.store_and_jobs.Goals as goal
use Rattle.portfolio.proofs.threads.store_and_jobs.Goals.{In_ok-layout}

-- the layout is made from the formula, the options and the readers
layout_is : (g : given.Over) (c : In_ok-layout g)
    → c.in_ok-layout.layout ≡ layout_of c.args.options c.args.formula.now (length c.args.readers.items)
layout_is g c =
    c.in_ok-layout.ensures.layout.0 ∙ ap (layout_of c.args.options c.args.formula.now) (c.len.ensures ∙ c.args.readers.ok.0)

-- there is a layout, so a result that isn't a layout fault is right
right : (g : given.Over) (c : In_ok-layout g) {A : Type 0} (result : Result A RunFault)
    → ((fault : LayoutFault) → result ≡ Err (Layout fault) → ⊥) → (fault : LayoutFault)
    → (result ≡ Err (Layout fault)) ↔ IsFault (layout_of c.args.options c.args.formula.now (length c.args.readers.items)) fault
right g c = no_layout_fault _ (subst IsLayout (layout_is g c) c.in_ok-layout.ensures.layout.1)

pub jobs_of-requires-clause-passes : goal.jobs_of-requires-clause-passes
jobs_of-requires-clause-passes g c =
    let streams = ap (λ (l : LayoutValue). l.streams) c.in_ok-layout.ensures.layout.0 in
    omega (arith, c.in_ok-store.ensures.count, streams, c.len.ensures)

pub jobs_of-requires-clause-streams : goal.jobs_of-requires-clause-streams
jobs_of-requires-clause-streams g c =
    ap (λ (t : RunParamsValue). t.layout.streams) c.new-run_params.ensures
    ∙ ap (λ (p : LayoutValue). p.streams) c.in_ok-layout.ensures.layout.0 ∙ c.len.ensures ∙ c.args.readers.ok.0

pub returns-in_err-store-clause-layout : goal.returns-in_err-store-clause-layout
returns-in_err-store-clause-layout g c =
    right g (goal.at.returns-in_err-store-clause-layout g c).In_ok-layout _
    (λ fault. not_layout _ fault (is_memory _ c.from_residual-in_err-store.ensures.1))

pub returns-in_err-store-clause-no_threads : goal.returns-in_err-store-clause-no_threads
returns-in_err-store-clause-no_threads g c = no_threads _ (is_memory _ c.from_residual-in_err-store.ensures.1)

pub returns-in_err-jobs-clause-layout : goal.returns-in_err-jobs-clause-layout
returns-in_err-jobs-clause-layout g c =
    right g (goal.at.returns-in_err-jobs-clause-layout g c).In_ok-layout _
    (λ fault. not_layout _ fault (is_memory _ c.from_residual-in_err-jobs.ensures.1))

pub returns-in_err-jobs-clause-no_threads : goal.returns-in_err-jobs-clause-no_threads
returns-in_err-jobs-clause-no_threads g c = no_threads _ (is_memory _ c.from_residual-in_err-jobs.ensures.1)

pub returns-clause-layout : goal.returns-clause-layout
returns-clause-layout g c = right g (goal.at.returns-clause-layout g c).In_ok-layout _ (λ fault e. cc)

pub returns-clause-is_layout : goal.returns-clause-is_layout
returns-clause-is_layout g c =
    subst IsLayout (layout_is g (goal.at.returns-clause-is_layout g c).In_ok-layout) c.in_ok-layout.ensures.layout.1

pub returns-clause-store : goal.returns-clause-store
returns-clause-store g c = c.in_ok-store.ensures.layout ∙ layout_is g (goal.at.returns-clause-store g c).In_ok-layout

pub returns-clause-jobs : goal.returns-clause-jobs
returns-clause-jobs g c =
    let f = c.args.formula.now in
    let p = c.in_ok-layout.layout in
    let firsts = c.args.readers.items in
    let store = c.in_ok-store in
    let made = run_params_made c.args.options c.args.cube.now f p c.len.result (length firsts) c.tries.result _
    c.new-run_params.ensures c.in_ok-layout.ensures.layout.0 (c.len.ensures ∙ c.args.readers.ok.0) c.tries.ensures.tries in
    subst (λ (t : RunParamsValue). HaveReadyJobs store.store f t 1 firsts c.in_ok-jobs.jobs.items) made
    (run_ready (readers_view g.R.Source) c.new-run_params.result p firsts store.passes.items c.in_ok-jobs.jobs.items
    store.passes.ok.0 store.ensures.count store.ensures.passes c.in_ok-jobs.ensures)
