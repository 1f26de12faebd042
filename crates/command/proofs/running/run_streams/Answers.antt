use Rattle.std.proofs.Common.{false, length, refl, subst, sym, true}
use Rattle.clause_store.specs.Passes.{views}
use Rattle.lrup_model.specs.Event.{History}
use Rattle.lrup_model.specs.Layout.{LayoutValue}
use Rattle.stream_check.specs.Readings.{readers_view}
use Rattle.stream_check.specs.SequentialConsistency.{HaveOneHistory, seen_by}
use Rattle.run_outcome.specs.Outcomes.{run_params_of}
use Rattle.command.proofs.CheckingLemmas.{as_checked, cause_of_run, has_layout}
use Rattle.command.proofs.running.run_streams.Goals as goal

pub returns-then-serial-clause-result_is : goal.returns-then-serial-clause-result_is
returns-then-serial-clause-result_is g c =
    let f = c.args.formula.now in
    let readers = c.args.readers.items in
    let p = run_params_of c.args.options c.args.course.now.cube.now f (length readers) in
    let outcome = c.in_ok-outcome.outcome in
    let found = c.in_ok-outcome.ensures in
    as_checked (readers_view g.F.Input.Source) f p readers c.args.course.now.line.now.serial true c.into_checked.result _
    c.if-serial.true c.into_checked.ensures (record {
      checked = record {
        layout = has_layout p.layout c.run_serial.result outcome c.in_ok-outcome.was c.run_serial.ensures.layout;
        lasts = outcome.readers.items;
        dropped = outcome.dropped.items;
        ran = found.ordered.0;
        way = found.ordered.1.2;
        is_verdict = found.verdict;
        sound = found.sound;
        sound_under = found.sound_under;
      };
      layout = found.kept.1;
      dropped_is = refl;
      has = (found.kept.0, found.ordered.1.0);
    })

pub returns-in_err-outcome-clause-cause : goal.returns-in_err-outcome-clause-cause
returns-in_err-outcome-clause-cause g c =
    let f = c.args.formula.now in
    let readers = c.args.readers.items in
    let p = run_params_of c.args.options c.args.course.now.cube.now f (length readers) in
    let run = c.run_serial in
    let made = c.from_residual-in_err-outcome in
    cause_of_run (readers_view g.F.Input.Source) c.args.course.now.line.now.serial f p readers made.result run.result
    c.in_err-outcome.field-0.0 made.ensures.1 c.in_err-outcome.was run.ensures.layout
    (λ stream e. absurd ((run.ensures.no_threads stream).0 e)) (λ stream e. absurd ((run.ensures.no_threads stream).1 e))

pub returns-clause-result_is : goal.returns-clause-result_is
returns-clause-result_is g c =
    let f = c.args.formula.now in
    let readers = c.args.readers.items in
    let p = run_params_of c.args.options c.args.course.now.cube.now f (length readers) in
    let outcome = c.in_ok-outcome-2.outcome in
    let found = c.in_ok-outcome-2.ensures in
    let passes = views outcome.passes.items in
    as_checked (readers_view g.F.Input.Source) f p readers c.args.course.now.line.now.serial false c.into_checked-2.result _
    c.if-serial.false c.into_checked-2.ensures (record {
      checked = record {
        layout = has_layout p.layout c.run.result outcome c.in_ok-outcome-2.was c.run.ensures.layout;
        lasts = outcome.readers.items;
        dropped = outcome.dropped.items;
        ran = found.reports.0;
        way = found.reports.1.3;
        is_verdict = found.verdict;
        sound = found.sound;
        sound_under = found.sound_under;
      };
      layout = found.store.1;
      dropped_is = refl;
      has = subst (λ (h : History). HaveOneHistory f outcome.store.layout h passes) (sym found.reports.1.0)
          (subst (λ (p : LayoutValue). HaveOneHistory f p (seen_by passes) passes) (sym found.store.1) found.history);
    })

pub returns-in_err-outcome-2-clause-cause : goal.returns-in_err-outcome-2-clause-cause
returns-in_err-outcome-2-clause-cause g c =
    let f = c.args.formula.now in
    let readers = c.args.readers.items in
    let p = run_params_of c.args.options c.args.course.now.cube.now f (length readers) in
    let run = c.run in
    let made = c.from_residual-in_err-outcome-2 in
    cause_of_run (readers_view g.F.Input.Source) c.args.course.now.line.now.serial f p readers made.result run.result
    c.in_err-outcome-2.field-0.0 made.ensures.1 c.in_err-outcome-2.was run.ensures.layout
    (λ stream e. (c.if-serial.false, run.ensures.spawn stream e)) (λ stream e. (c.if-serial.false, run.ensures.ring stream e))
