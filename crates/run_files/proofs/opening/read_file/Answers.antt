use Rattle.std.proofs.Common.{subst, sym}
use Rattle.run_files.specs.Causes.{IsFileCause}
use Rattle.run_files.specs.Files.{files_view}
use Rattle.run_files.specs.declared.fault.CommandFault.{CommandFault}
use Rattle.run_files.specs.lemmas.ResultLemmas.{err_given, if_err}
use Rattle.run_files.proofs.FileLemmas.{opening_cause, reading_cause, was_read}
use Rattle.run_files.proofs.opening.read_file.Goals as goal

pub returns-clause-bytes : goal.returns-clause-bytes
returns-clause-bytes g c =
    let files = files_view g.F.Files g.F.Machine g.F.Input.Source g.F.Output.Sink c.args.files.now in
    let source = c.in_ok-source in
    was_read files c.args.files.now c.args.path.now source.source c.open_watched.new.files
    (λ bytes. bytes.items) c.read_all.result source.ensures.opens source.ensures.left c.read_all.ensures.gave c.read_all.ensures.all

pub returns-clause-cause : goal.returns-clause-cause
returns-clause-cause g c =
    let files = files_view g.F.Files g.F.Machine g.F.Input.Source g.F.Output.Sink c.args.files.now in
    let source = c.in_ok-source in
    if_err c.read_all.result _ (λ fault. IsFileCause files c.args.files.now c.args.path.now fault c.open_watched.new.files)
    (reading_cause files c.args.files.now c.args.path.now source.source c.open_watched.new.files source.ensures.opens source.ensures.left)
    c.read_all.ensures.fault

pub returns-in_err-source-clause-cause : goal.returns-in_err-source-clause-cause
returns-in_err-source-clause-cause g c =
    let files = files_view g.F.Files g.F.Machine g.F.Input.Source g.F.Output.Sink c.args.files.now in
    let Cause : CommandFault → Type 0 = λ fault. IsFileCause files c.args.files.now c.args.path.now fault c.open_watched.new.files in
    let cause = opening_cause files c.args.files.now c.args.path.now c.in_err-source.field-0.0 c.open_watched.new.files
    c.in_err-source.ensures.refuses in
    err_given c.from_residual.result _ Cause (λ fault is. subst Cause (sym is) cause) c.from_residual.ensures.1
