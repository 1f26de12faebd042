use Rattle.model_check.specs.Answers.{bytes_of}
use Rattle.model_check.proofs.AnswerLemmas.{satisfied_from, exact_from}
use Rattle.model_check.proofs.check_model.Goals as goal

pub returns-clause-satisfied : goal.returns-clause-satisfied
returns-clause-satisfied c =
    satisfied_from c.args.formula.now (bytes_of c.args.assumed) c.args.model.now c.check_files.result c.check_files.ensures.answer

pub returns-clause-exact : goal.returns-clause-exact
returns-clause-exact c =
    exact_from c.one_formula.ensures c.formula_or_fault.ensures c.a_text_spells_one_line.ensures c.a_cube_text_is_read.ensures
    c.a_cube_has_no_text_fault.ensures c.args.formula.now (bytes_of c.args.assumed) c.args.model.now c.check_files.result
    c.check_files.ensures.answer c.check_files.ensures.fault
