use Rattle.std.proofs.Common.{◌<◌, arith, length, refl, subst}
use Rattle.std.specs.Cow.{cow_value}
use Rattle.run_files.specs.Asked.{created_path, run_params_by}
use Rattle.run_files.specs.Files.{effects_of}
use Rattle.stream_check.specs.Streams.{RunParamsValue}
use Rattle.command.specs.internal.Running.{IsCheckResult, IsRunCause}
use Rattle.command.proofs.CheckingLemmas.{run_start}
use Rattle.command.proofs.RoundLemmas.{run_params_same, some_streams}
use Rattle.command.proofs.SavingLemmas.{left_unused}
use Rattle.command.proofs.round.run_round.Goals as goal

pub returns-in-Err-clause-cause : goal.returns-in-Err-clause-cause
returns-in-Err-clause-cause g c before created =
    let its = effects_of g.F.Files g.F.Machine g.F.Input.Source g.F.Output.Sink in
    let line = c.args.course.now.line.now in
    let cube = c.args.course.now.cube.now in
    let round = c.args.round in
    let f = cow_value round.formula in
    let readers = round.readers.items in
    let after = c.discard_it.new.files in
    let path = created_path line.next round.number in
    let params = run_params_same f line cube cube c.args.options round.sizes (length readers) c.requires.options refl c.requires.count in
    let unused = left_unused its before c.args.files.now after path c.args.output created c.discard_it.ensures in
    let fault = c.in-Err.fault in
    run_start its line.serial f (run_params_by line cube f round.sizes) readers before path fault after c.requires.layout
    (subst (λ (p : RunParamsValue). IsRunCause its.reading line.serial f p readers fault) params
    (rw c.as_ref.ensures at c.in-Err.ensures.cause)) unused

pub close_round-result-requires-clause-streams : goal.close_round-result-requires-clause-streams
close_round-result-requires-clause-streams g c =
    let some : 0 < length c.args.round.readers.items = some_streams _ c.in-Ok.ensures.result_is.checked.layout in
    omega (arith, some, c.requires.count)

pub returns-clause-found : goal.returns-clause-found
returns-clause-found g c before created =
    let its = effects_of g.F.Files g.F.Machine g.F.Input.Source g.F.Output.Sink in
    let line = c.args.course.now.line.now in
    let cube = c.args.course.now.cube.now in
    let round = c.args.round in
    let f = cow_value round.formula in
    let readers = round.readers.items in
    let run = c.in-Ok.run' in
    let params = run_params_same f line cube cube c.args.options round.sizes (length readers) c.requires.options refl c.requires.count in
    c.close_round-result.ensures.found f readers before c.requires.count
    (subst (λ (p : RunParamsValue). IsCheckResult its.reading line.serial f p readers run.reports.items run.verdict run.clauses
    run.dropped.items) params (rw c.as_ref.ensures at c.in-Ok.ensures.result_is)) created
