use Rattle.std.proofs.Common.{ℕ, List, Some, subst, sym}
use Rattle.lrup_text.specs.Cubes.{IsCubeFault}
use Rattle.run_files.specs.Causes.{IsAssumeCause}
use Rattle.run_files.specs.Files.{files_view}
use Rattle.run_files.specs.declared.fault.CommandFault.{CommandFault}
use Rattle.run_files.specs.lemmas.ResultLemmas.{err_given}
use Rattle.run_files.proofs.FileLemmas.{cube_file_cause, cube_text_cause}
use Rattle.run_files.proofs.opening.read_cube_at.Goals as goal

pub returns-in_err-read_cube-in-Ok-clause-cause : goal.returns-in_err-read_cube-in-Ok-clause-cause
returns-in_err-read_cube-in-Ok-clause-cause g c =
    let files = files_view g.F.Files g.F.Machine g.F.Input.Source g.F.Output.Sink c.args.files.now in
    let after = c.read_file.new.files in
    let Cause : CommandFault → Type 0 =
    λ fault. IsAssumeCause files c.args.formula.now.vars c.args.files.now (Some c.args.path.now) fault after in
    let faulty = subst (λ (n : ℕ). IsCubeFault n c.in-Ok.bytes.items c.in_err-read_cube-in-Ok.field-0.0) c.vars.ensures.vars
    (subst (λ (bytes : List ℕ). IsCubeFault c.vars.result bytes c.in_err-read_cube-in-Ok.field-0.0) c.deref.ensures.value
    c.in_err-read_cube-in-Ok.ensures.fault) in
    let cause = cube_text_cause files c.args.formula.now.vars c.args.files.now c.args.path.now c.in-Ok.bytes.items after
    c.in-Ok.ensures.bytes c.in_err-read_cube-in-Ok.field-0.0 faulty in
    err_given c.from_residual.result _ Cause (λ fault is. subst Cause (sym is) cause) c.from_residual.ensures.1

pub returns-in-Err-clause-cause : goal.returns-in-Err-clause-cause
returns-in-Err-clause-cause g c =
    let files = files_view g.F.Files g.F.Machine g.F.Input.Source g.F.Output.Sink c.args.files.now in
    let after = c.read_file.new.files in
    let Cause : CommandFault → Type 0 =
    λ fault. IsAssumeCause files c.args.formula.now.vars c.args.files.now (Some c.args.path.now) fault after in
    subst Cause (sym c.of_cube_file.ensures)
    (cube_file_cause files c.args.formula.now.vars c.args.files.now c.args.path.now c.in-Err.fault after c.in-Err.ensures.cause)
