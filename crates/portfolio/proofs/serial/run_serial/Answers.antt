use Rattle.std.proofs.Common.{◌≡◌, ◌∙◌, Result, Err, IfErr, length, refl, replicate, sym, ap, subst}
use Rattle.std.specs.Prelude.{◌↔◌}
use Rattle.lrup_model.specs.Formula.{Cnf}
use Rattle.lrup_model.specs.Layout.{Fits, IsFault, LayoutValue}
use Rattle.lrup_model.specs.declared.layout.LayoutFault.{LayoutFault}
use Rattle.lrup_model.specs.State.{opening}
use Rattle.stream_check.specs.Readings.{readers_view}
use Rattle.stream_check.specs.Streams.{RunParamsValue}
use Rattle.stream_turns.specs.Results.{AreCheckedInTurn}
use Rattle.run_outcome.specs.Outcomes.{layout_of, run_params_of}
use Rattle.run_outcome.specs.declared.outcome.RunFault.{RunFault}
use Rattle.run_outcome.specs.declared.outcome.RunFault.TheVariants.{Layout, Memory}
use Rattle.run_outcome.specs.lemmas.CubeLemmas.{sound_under_run}
use Rattle.run_outcome.specs.lemmas.RunLemmas.{is_memory, no_threads, none_of_layout, not_layout, run_params_made, sound_run}
use Rattle.portfolio.proofs.SerialLemmas.{run_in_turn}
use Rattle.portfolio.proofs.serial.run_serial.Given as given
use Rattle.portfolio.proofs.serial.run_serial.Goals as goal
use Rattle.portfolio.proofs.serial.run_serial.Goals.{In_ok-found, In_ok-layout}

-- the streams were checked with the formula and the parameters of the run
checked : (g : given.Over) (c : In_ok-found g) → AreCheckedInTurn (readers_view g.R.Source) c.args.formula.now
    (run_params_of c.args.options c.args.cube.now c.args.formula.now (length c.args.readers.items)) c.args.readers.items
    c.in_ok-found.found.readers.items c.in_ok-found.found.reports.items c.in_ok-found.found.dropped.items c.check_all.new.map
checked g c =
    let f = c.args.formula.now in
    let firsts = c.args.readers.items in
    let found = c.in_ok-found.found in
    let made = run_params_made c.args.options c.args.cube.now f c.in_ok-layout.layout c.len.result (length firsts) c.tries.result _
    c.new-run_params.ensures c.in_ok-layout.ensures.layout.0 (c.len.ensures ∙ c.args.readers.ok.0) c.tries.ensures.tries in
    subst (λ (t : RunParamsValue). AreCheckedInTurn (readers_view g.R.Source) f t firsts found.readers.items found.reports.items
    found.dropped.items c.check_all.new.map) made
    (subst (λ (its : Cnf). AreCheckedInTurn (readers_view g.R.Source) its c.new-run_params.result firsts found.readers.items
    found.reports.items found.dropped.items c.check_all.new.map) c.in_ok-map.ensures.formula c.in_ok-found.ensures)

pub check_all-requires-clause-streams : goal.check_all-requires-clause-streams
check_all-requires-clause-streams g c =
    ap (λ (t : RunParamsValue). t.layout.streams) c.new-run_params.ensures
    ∙ ap (λ (p : LayoutValue). p.streams) c.in_ok-layout.ensures.layout.0 ∙ c.len.ensures ∙ c.args.readers.ok.0

pub check_all-requires-clause-opened : goal.check_all-requires-clause-opened
check_all-requires-clause-opened g c =
    let map = c.in_ok-map.ensures in
    let p = c.new-run_params.result.layout in
    let layout : c.in_ok-layout.layout ≡ p = sym (ap (λ (t : RunParamsValue). t.layout) c.new-run_params.ensures) in
    record {
      layout = map.layout ∙ layout;
      fits = subst (Fits p) (sym map.formula)
          (subst (λ (q : LayoutValue). Fits q c.args.formula.now) layout c.in_ok-layout.ensures.layout.2);
      clauses = map.state ∙ ap opening (sym map.formula);
      room = map.room ∙ ap (λ (q : LayoutValue). replicate q.streams q.room) layout;
    }

-- a run that ran out of memory has a layout, and has no other fault
no_layout : (g : given.Over) (c : In_ok-layout g) {A : Type 0} (result : Result A RunFault) → IfErr result (λ e. e ≡ Memory)
    → (fault : LayoutFault)
    → (result ≡ Err (Layout fault)) ↔ IsFault (layout_of c.args.options c.args.formula.now (length c.args.readers.items)) fault
no_layout g c result memory fault = (
  (λ e. absurd (not_layout result fault memory e)),
  (λ bad. absurd (none_of_layout c.args.options c.args.formula.now _ c.len.result (length c.args.readers.items)
      c.in_ok-layout.ensures.layout.0 (c.len.ensures ∙ c.args.readers.ok.0) c.in_ok-layout.ensures.layout.1 fault bad)),
)

pub returns-in_err-map-clause-layout : goal.returns-in_err-map-clause-layout
returns-in_err-map-clause-layout g c =
    no_layout g (goal.at.returns-in_err-map-clause-layout g c).In_ok-layout _ (is_memory _ c.from_residual-in_err-map.ensures.1)

pub returns-in_err-map-clause-no_threads : goal.returns-in_err-map-clause-no_threads
returns-in_err-map-clause-no_threads g c = no_threads _ (is_memory _ c.from_residual-in_err-map.ensures.1)

pub returns-in_err-found-clause-layout : goal.returns-in_err-found-clause-layout
returns-in_err-found-clause-layout g c =
    no_layout g (goal.at.returns-in_err-found-clause-layout g c).In_ok-layout _ (is_memory _ c.from_residual-in_err-found.ensures.1)

pub returns-in_err-found-clause-no_threads : goal.returns-in_err-found-clause-no_threads
returns-in_err-found-clause-no_threads g c = no_threads _ (is_memory _ c.from_residual-in_err-found.ensures.1)

pub returns-clause-layout : goal.returns-clause-layout
returns-clause-layout g c = no_layout g (goal.at.returns-clause-layout g c).In_ok-layout _ tt

-- the law's premise holds: the layout is made for the formula
pub returns-clause-ordered : goal.returns-clause-ordered
returns-clause-ordered g c =
    let f = c.args.formula.now in
    let run_params = run_params_of c.args.options c.args.cube.now f (length c.args.readers.items) in
    let fits : Fits run_params.layout f = record { vars = refl; clauses = refl; literals = refl } in
    let out = c.outcome_of.ensures in
    let by = run_in_turn (readers_view g.R.Source) f run_params _ _ _ _ _
    (checked g (goal.at.returns-clause-ordered g c).In_ok-found) in
    rw (out.reports, out.readers, out.dropped, out.kept) (by.0, (by.1, c.run_isolated.ensures f run_params _ _ fits by.0.run, by.2))

-- the turns keep the formula and the layout
pub returns-clause-kept : goal.returns-clause-kept
returns-clause-kept g c =
    let checked = checked g (goal.at.returns-clause-kept g c).In_ok-found in
    rw c.outcome_of.ensures.kept (checked.formula, checked.layout)

pub returns-clause-sound : goal.returns-clause-sound
returns-clause-sound g c =
    sound_run _ _ _ _ c.outcome_of.result.verdict (returns-clause-ordered g c).0.run c.outcome_of.ensures.verdict

pub returns-clause-sound_under : goal.returns-clause-sound_under
returns-clause-sound_under g c =
    sound_under_run _ _ _ _ c.outcome_of.result.verdict (returns-clause-ordered g c).0.run c.outcome_of.ensures.verdict
