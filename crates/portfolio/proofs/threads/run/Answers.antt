use Rattle.std.proofs.Common.{◌≡◌, Result, Err, length, refl}
use Rattle.std.specs.Prelude.{◌↔◌}
use Rattle.lrup_model.specs.Layout.{IsFault}
use Rattle.lrup_model.specs.declared.layout.LayoutFault.{LayoutFault}
use Rattle.stream_check.specs.Readings.{readers_view}
use Rattle.run_outcome.specs.Outcomes.{layout_of, run_params_of}
use Rattle.run_outcome.specs.declared.outcome.RunFault.{RunFault}
use Rattle.run_outcome.specs.declared.outcome.RunFault.TheVariants.{Layout, Ring, Spawn}
use Rattle.run_outcome.specs.lemmas.CubeLemmas.{sound_under_run}
use Rattle.run_outcome.specs.lemmas.RunLemmas.{is_memory, not_layout, sound_run}
use Rattle.portfolio.proofs.ConsistencyLemmas.{IsBegun, can_begin, found_of, run_history, run_reports}
use Rattle.portfolio.proofs.FaultLemmas.{before_of, no_layout_fault, no_other, not_layout_of, ring_stops, spawn_within}
use Rattle.portfolio.proofs.threads.run.Given as given
use Rattle.portfolio.proofs.threads.run.Goals as goal
use Rattle.portfolio.proofs.threads.run.Goals.{In_ok-store}

-- the run was begun with the parameters that its arguments give
begun : (g : given.Over) (c : In_ok-store g) → IsBegun c.args.formula.now
    (run_params_of c.args.options c.args.cube.now c.args.formula.now (length c.args.readers.items)) c.in_ok-store.store
    c.args.readers.items c.in_ok-store.jobs.items
begun g c = record {
  is = c.in_ok-store.ensures.is_layout;
  fits = record { vars = refl; clauses = refl; literals = refl };
  count = refl;
  store_is = c.in_ok-store.ensures.store;
  ready = c.in_ok-store.ensures.jobs;
}

-- the parameters have a layout, so a result that isn't a layout fault is right
right : (g : given.Over) (c : In_ok-store g) {A : Type 0} (result : Result A RunFault)
    → ((fault : LayoutFault) → result ≡ Err (Layout fault) → ⊥) → (fault : LayoutFault)
    → (result ≡ Err (Layout fault)) ↔ IsFault (layout_of c.args.options c.args.formula.now (length c.args.readers.items)) fault
right g c = no_layout_fault _ c.in_ok-store.ensures.is_layout

pub check_all-requires-clause-begin : goal.check_all-requires-clause-begin
check_all-requires-clause-begin g c κs lives =
    can_begin (readers_view g.R.Source) (begun g (goal.at.check_all-requires-clause-begin g c).In_ok-store)

pub returns-in_err-store-clause-spawn : goal.returns-in_err-store-clause-spawn
returns-in_err-store-clause-spawn g c = λ stream e.
    absurd (no_other _ _ _ c.from_residual.ensures.1 (c.in_err-store.ensures.no_threads stream).0 e)

pub returns-in_err-store-clause-ring : goal.returns-in_err-store-clause-ring
returns-in_err-store-clause-ring g c = λ stream e.
    absurd (no_other _ _ _ c.from_residual.ensures.1 (c.in_err-store.ensures.no_threads stream).1 e)

pub returns-in_err-lists-clause-layout : goal.returns-in_err-lists-clause-layout
returns-in_err-lists-clause-layout g c = right g (goal.at.returns-in_err-lists-clause-layout g c).In_ok-store _
    (λ fault. not_layout _ fault (is_memory _ c.from_residual-in_err-lists.ensures.1))

pub returns-in-Ok-clause-layout : goal.returns-in-Ok-clause-layout
returns-in-Ok-clause-layout g c =
    right g (goal.at.returns-in-Ok-clause-layout g c).In_ok-store _ (λ fault e. cc)

-- the passes in the threads' fault belong to the store
pub fault_of-requires : goal.fault_of-requires
fault_of-requires g c = record {
  store = before_of (readers_view g.R.Source) (begun g (goal.at.fault_of-requires g c).In_ok-store) _ c.in-Err.ensures.fault;
}

pub returns-clause-layout : goal.returns-clause-layout
returns-clause-layout g c =
    let its = c.fault_of.ensures in
    right g (goal.at.returns-clause-layout g c).In_ok-store _ (λ fault e.
    let is : c.fault_of.result ≡ Layout fault = cc in
    not_layout_of (readers_view g.R.Source) _ _ fault its.spawn its.ring is)

pub returns-clause-spawn : goal.returns-clause-spawn
returns-clause-spawn g c = λ stream e.
    let its = c.fault_of.ensures in
    let is : c.fault_of.result ≡ Spawn stream = cc in
    spawn_within (readers_view g.R.Source) (begun g (goal.at.returns-clause-spawn g c).In_ok-store) _ _ stream
    c.in-Err.ensures.fault its.spawn its.ring is

pub returns-clause-ring : goal.returns-clause-ring
returns-clause-ring g c = λ stream e.
    let its = c.fault_of.ensures in
    let is : c.fault_of.result ≡ Ring stream = cc in
    ring_stops (readers_view g.R.Source) (begun g (goal.at.returns-clause-ring g c).In_ok-store) _ _ stream
    c.in-Err.ensures.fault its.spawn its.ring its.met is

pub outcome_of-requires : goal.outcome_of-requires
outcome_of-requires g c =
    let begun = begun g (goal.at.outcome_of-requires g c).In_ok-store in
    let view = readers_view g.R.Source in
    record { store = found_of view _ c.in_ok-store.jobs.items c.in-Ok.found (can_begin view begun) c.in-Ok.ensures.found }

pub returns-in-Ok-clause-history : goal.returns-in-Ok-clause-history
returns-in-Ok-clause-history g c =
    let begun = begun g (goal.at.returns-in-Ok-clause-history g c).In_ok-store in
    let out = c.outcome_of.ensures in
    run_history (readers_view g.R.Source) begun c.in-Ok.found _ c.in-Ok.ensures.found out.synced out.one

-- the premise of the laws holds: the layout is made for the formula
pub returns-in-Ok-clause-reports : goal.returns-in-Ok-clause-reports
returns-in-Ok-clause-reports g c =
    let begun = begun g (goal.at.returns-in-Ok-clause-reports g c).In_ok-store in
    let out = c.outcome_of.ensures in
    let by = run_reports (readers_view g.R.Source) begun c.in-Ok.found _ c.in-Ok.ensures.found out.synced out.one in
    let isolated = c.run_isolated.ensures _ _ _ _ begun.fits by.0.run in
    let serializable = c.run_serializable.ensures _ _ _ _ begun.fits by.0.run in
    rw (out.reports, out.readers, out.dropped) (by.0, (by.1, isolated, serializable, by.2))

pub returns-in-Ok-clause-store : goal.returns-in-Ok-clause-store
returns-in-Ok-clause-store g c =
    let begun = begun g (goal.at.returns-in-Ok-clause-store g c).In_ok-store in
    let out = c.outcome_of.ensures in
    rw out.kept (out.of, begun.store_is)

pub returns-in-Ok-clause-sound : goal.returns-in-Ok-clause-sound
returns-in-Ok-clause-sound g c =
    sound_run _ _ _ _ c.outcome_of.result.verdict (returns-in-Ok-clause-reports g c).0.run c.outcome_of.ensures.verdict

pub returns-in-Ok-clause-sound_under : goal.returns-in-Ok-clause-sound_under
returns-in-Ok-clause-sound_under g c =
    sound_under_run _ _ _ _ c.outcome_of.result.verdict (returns-in-Ok-clause-reports g c).0.run c.outcome_of.ensures.verdict
