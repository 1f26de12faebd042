use Rattle.std.proofs.Common.{ℕ, List, Option, inl, inr, refl, rules, subst}
use Rattle.clap.specs.Walk.{texts}
use Rattle.run_files.specs.Files.{FilesView, WereRead, files_view}
use Rattle.command.specs.Commands.{change}
use Rattle.run_files.specs.Asked.{Text}
use Rattle.command.specs.Rounds.{ProgramEnds}
use Rattle.command.proofs.CheckingLemmas.{names_unsatisfiable, names_unsatisfiable_under}
use Rattle.command.proofs.EntailedLemmas.{all_entailed}
use Rattle.command.proofs.StatusLemmas.{all_empty, all_saved, all_unwritten}
use Rattle.command.proofs.program.command.Goals as goal

pub returns-in-Ok-clause-sound : goal.returns-in-Ok-clause-sound
returns-in-Ok-clause-sound g c zero =
    let asked = c.in-Ok.asked in
    let files = files_view g.F.Files g.F.Machine g.F.Input.Source g.F.Output.Sink c.args.files.now in
    names_unsatisfiable files (texts c.args.words.now) asked.line asked.formula asked.cube c.read_asked.new.files
    c.in-Ok.ensures.line c.in-Ok.ensures.read (c.check_formula.ensures.sound zero)

pub returns-in-Ok-clause-sound_under : goal.returns-in-Ok-clause-sound_under
returns-in-Ok-clause-sound_under g c eight =
    let asked = c.in-Ok.asked in
    let files = files_view g.F.Files g.F.Machine g.F.Input.Source g.F.Output.Sink c.args.files.now in
    names_unsatisfiable_under files (texts c.args.words.now) asked.line asked.formula asked.cube c.read_asked.new.files
    c.in-Ok.ensures.line c.in-Ok.ensures.read (c.check_formula.ensures.sound_under eight)

pub returns-in-Ok-clause-ends : goal.returns-in-Ok-clause-ends
returns-in-Ok-clause-ends g c =
    let asked = c.in-Ok.asked in
    let words = texts c.args.words.now in
    let first = c.args.files.now in
    let next = c.read_asked.new.files in
    let view : (Text → Option (List ℕ)) → FilesView =
    λ t. record (files_view g.F.Files g.F.Machine g.F.Input.Source g.F.Output.Sink first) { contents = t } in
    let output =
    change g.O.Sink c.args.out.now c.check_formula.new.out in
    let errors =
    change g.E.Sink c.args.err.now c.check_formula.new.err in
    let Told : (Text → Option (List ℕ)) → Type 0 = λ t. WereRead (view t) asked.line asked.formula asked.cube next
    → ProgramEnds (view t) words c.check_formula.new.files output errors c.check_formula.result in
    let ends = c.check_formula.ensures.ends words first c.in-Ok.ensures.line in
    subst Told c.in-Ok.ensures.stays ends c.in-Ok.ensures.read

pub returns-in-Ok-clause-saved : goal.returns-in-Ok-clause-saved
returns-in-Ok-clause-saved g c = all_saved _ _ _ _ _ _ (returns-in-Ok-clause-ends g c)

pub returns-in-Ok-clause-unwritten : goal.returns-in-Ok-clause-unwritten
returns-in-Ok-clause-unwritten g c = all_unwritten _ _ _ _ _ _ (returns-in-Ok-clause-ends g c)

pub returns-in-Ok-clause-none_saved : goal.returns-in-Ok-clause-none_saved
returns-in-Ok-clause-none_saved g c = all_empty _ _ _ _ _ _ (returns-in-Ok-clause-ends g c)

pub returns-in-Ok-clause-saved_rounds : goal.returns-in-Ok-clause-saved_rounds
returns-in-Ok-clause-saved_rounds g c folder =
    all_entailed c.entails_itself.ensures c.entails_onward.ensures _ _ folder _ _ _ _ (returns-in-Ok-clause-ends g c)

pub returns-in-Err-clause-ends : goal.returns-in-Err-clause-ends
returns-in-Err-clause-ends g c = inr (record {
  number = 1;
  fault = c.in-Err.fault;
  cause = inl (refl, c.in-Err.ensures.cause);
  untouched = record { written = search rules; failed = c.requires.out };
  said = c.say.ensures.said c.requires.err;
  status_is = c.say.ensures.status;
})

pub returns-in-Err-clause-saved_rounds : goal.returns-in-Err-clause-saved_rounds
returns-in-Err-clause-saved_rounds g c folder =
    all_entailed c.entails_itself.ensures c.entails_onward.ensures _ _ folder _ _ _ _ (returns-in-Err-clause-ends g c)
