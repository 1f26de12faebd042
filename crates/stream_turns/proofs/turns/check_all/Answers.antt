use Rattle.std.proofs.Common.{◌∙◌, List, length, map, drop, sym, ap, subst}
use Rattle.lrup_model.specs.Plain.{formula_of}
use Rattle.stream_check.specs.Readings.{readers_view}
use Rattle.stream_check.specs.lemmas.ListLemmas.{written_back}
use Rattle.stream_turns.specs.internal.Turns.{AreFinished, SerialStep, HaveReports, IsInSerialRun}
use Rattle.stream_turns.specs.internal.Working.{WorkerValue}
use Rattle.stream_turns.proofs.TurnsLemmas.{checked_over, serial_opened}
use Rattle.stream_turns.proofs.turns.check_all.Goals as goal

pub take_turns-requires : goal.take_turns-requires
take_turns-requires g c =
    let view = readers_view g.R.Source in
    let opened = c.args.map.now in
    let run_params = c.args.run_params.now in
    let firsts = c.args.readers.items in
    let started = c.in_ok-workers in
    let begun = serial_opened view run_params opened c.requires.opened firsts started.workers.items (sym c.requires.streams)
    started.ensures in
    record {
      running = subst (IsInSerialRun view 0 opened) (sym c.deref_mut.ensures.value) (formula_of opened, run_params, firsts, begun);
    }

pub results_of-requires-clause-finished : goal.results_of-requires-clause-finished
results_of-requires-clause-finished g c =
    let started = c.in_ok-workers.workers in
    let worked = c.take_turns.new.workers in
    let back = written_back started.len worked (drop (length worked) started.items) (c.take_turns.auto.workers ∙ c.deref_mut.ensures.len) in
    subst AreFinished (sym back) c.take_turns.ensures.finished

pub returns : goal.returns
returns g c =
    let view = readers_view g.R.Source in
    let opened = c.args.map.now in
    let run_params = c.args.run_params.now in
    let firsts = c.args.readers.items in
    let started = c.in_ok-workers.workers in
    let worked = c.take_turns.new.workers in
    let later = c.take_turns.new.map in
    let back = written_back started.len worked (drop (length worked) started.items) (c.take_turns.auto.workers ∙ c.deref_mut.ensures.len) in
    let reports = c.results_of.result.reports.items in
    let out = c.results_of.ensures in
    let have = subst (λ (ws : List (WorkerValue g.row.R.Denot)). HaveReports ws reports) back out.reports in
    let begun = serial_opened view run_params opened c.requires.opened firsts started.items (sym c.requires.streams)
    c.in_ok-workers.ensures in
    let goes = subst (λ (ws : List (WorkerValue g.row.R.Denot)). SerialStep view 0 opened ws 0 later worked)
    c.deref_mut.ensures.value c.take_turns.ensures.step in
    rw (
      out.readers ∙ ap (map (λ (w : WorkerValue g.row.R.Denot). w.reader)) back,
      out.dropped ∙ ap (map (λ (w : WorkerValue g.row.R.Denot). w.checker.dropped)) back,
    ) (checked_over view (formula_of opened) run_params firsts later worked reports (sym c.requires.streams)
    (goes (formula_of opened) run_params firsts begun) have)
