use Rattle.std.proofs.Common.{ℕ, [], Option, sym, subst}
use Rattle.std.proofs.KnownBytes.{Consumes-nil}
use Rattle.lrup_model.specs.Cube.{CubeValue}
use Rattle.lrup_model.specs.Layout.{LayoutValue}
use Rattle.lrup_text.specs.lemmas.ReadLemmas.{gave_none}
use Rattle.stream_check.specs.declared.report.Ending.{Ending}
use Rattle.stream_check.specs.Checker.{IsNew}
use Rattle.stream_check.specs.Readings.{readers_view}
use Rattle.stream_turns.specs.internal.Working.{WorkerInvariantBy}
use Rattle.stream_turns.proofs.worker.Worker.new.Goals as goal

pub returns : goal.returns
returns g c =
    let run_params = c.args.run_params.now in
    let s = c.args.stream in
    let first = c.args.reader in
    let v = c.in_ok-new.field-0 in
    let view = readers_view g.R.Source in
    let made : IsNew run_params.layout run_params.cube s run_params.tries v =
    subst (λ (p : LayoutValue). IsNew p run_params.cube s run_params.tries v) c.layout.ensures
    (subst (λ (cube : CubeValue). IsNew c.layout.result.now cube s run_params.tries v) c.cube.ensures
    (subst (λ (n : ℕ). IsNew c.layout.result.now c.cube.result.now s n v) c.tries.ensures.tries c.in_ok-new.ensures)) in
    record {
      params = made.params;
      last = made.last;
      ending = made.ending;
      holds = subst (λ (e : Option Ending). WorkerInvariantBy view e first (record { reader = first; unread = []; checker = v })
          run_params.layout.room [])
          (sym made.ending) ([], Consumes-nil (view.left first), gave_none _ view.reads first, made.left);
    }
