use Rattle.std.proofs.Common.{List, Option, ℕ, refl, subst, sym}
use Rattle.clap.specs.Walk.{texts}
use Rattle.run_files.specs.Asked.{Text, assumed_at}
use Rattle.run_files.specs.Causes.{IsAssumeCause, IsCause}
use Rattle.run_files.specs.Files.{AreAssumed, FilesView, WasReadIn, files_view}
use Rattle.run_files.specs.lemmas.CauseLemmas.{assumed_cause, read_cause}
use Rattle.run_files.specs.lemmas.ResultLemmas.{err_given}
use Rattle.run_files.proofs.FileLemmas.{moved_cause}
use Rattle.run_files.proofs.opening.read_asked.Goals as goal

pub returns-in_err-formula-clause-cause : goal.returns-in_err-formula-clause-cause
returns-in_err-formula-clause-cause g c =
    let files = files_view g.F.Files g.F.Machine g.F.Input.Source g.F.Output.Sink c.args.files.now in
    let words = texts c.args.words.now in
    let after = c.read_formula.new.files in
    let cause = read_cause files words c.in_ok-line.line c.in_ok-line.ensures.ok c.in_err-formula.field-0.0 after
    c.in_err-formula.ensures.cause in
    err_given c.from_residual-in_err-formula.result _ (λ fault. IsCause files words fault after)
    (λ other is. subst (λ fault. IsCause files words fault after) (sym is) cause) c.from_residual-in_err-formula.ensures.1

pub returns-in_err-cube-clause-cause : goal.returns-in_err-cube-clause-cause
returns-in_err-cube-clause-cause g c =
    let first = c.args.files.now in
    let next = c.read_formula.new.files in
    let after = c.read_assumed.new.files in
    let files = files_view g.F.Files g.F.Machine g.F.Input.Source g.F.Output.Sink first in
    let from : (Text → Option (List ℕ)) → FilesView =
    λ t. record (files_view g.F.Files g.F.Machine g.F.Input.Source g.F.Output.Sink next) { contents = t } in
    let words = texts c.args.words.now in
    let line = c.in_ok-line.line in
    let formula = c.in_ok-formula.formula in
    let fault = c.in_err-cube.field-0.0 in
    let known = subst (λ (t : Text → Option (List ℕ)). IsAssumeCause (from t) formula.vars next (assumed_at line) fault after)
    c.in_ok-formula.ensures.stays c.in_err-cube.ensures.cause in
    let moved = moved_cause files next formula.vars next (assumed_at line) fault after known in
    let cause = assumed_cause files words line c.in_ok-line.ensures.ok formula next c.in_ok-formula.ensures.formula (assumed_at line) refl
    fault after moved in
    err_given c.from_residual-in_err-cube.result _ (λ fault. IsCause files words fault after)
    (λ other is. subst (λ fault. IsCause files words fault after) (sym is) cause) c.from_residual-in_err-cube.ensures.1

pub returns-clause-read : goal.returns-clause-read
returns-clause-read g c =
    let next = c.read_formula.new.files in
    let from : (Text → Option (List ℕ)) → FilesView =
    λ t. record (files_view g.F.Files g.F.Machine g.F.Input.Source g.F.Output.Sink next) { contents = t } in
    record {
      next = next;
      is_formula = c.in_ok-formula.ensures.formula;
      assumed = subst (λ (t : Text → Option (List ℕ)). AreAssumed (WasReadIn (from t)) c.in_ok-formula.formula.vars next
          (assumed_at c.in_ok-line.line) c.in_ok-cube.cube c.read_assumed.new.files) c.in_ok-formula.ensures.stays
          c.in_ok-cube.ensures.cube;
    }
