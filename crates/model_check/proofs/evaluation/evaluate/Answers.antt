use Rattle.std.proofs.Common.{arith}
use Rattle.std.proofs.lemmas.Grind.{common_steps}
use Rattle.model_check.specs.Answers.{IsAnswer}
use Rattle.model_check.specs.declared.answer.Answer.TheVariants.{Contradiction}
use Rattle.model_check.proofs.AnswerLemmas.{answer_exact, answer_satisfied}
use Rattle.model_check.proofs.evaluation.evaluate.Goals as goal

pub returns-in-Some-clause-exact : goal.returns-in-Some-clause-exact
returns-in-Some-clause-exact c =
    answer_exact c.args.formula.now c.args.cube.now c.args.literals.now (Contradiction c.in-Some.l) c.in-Some.ensures

pub returns-clause-satisfied : goal.returns-clause-satisfied
returns-clause-satisfied c same =
    let is : IsAnswer c.args.formula.now c.args.cube.now c.args.literals.now c.answer_of.result = grind (arith, common_steps) in
    answer_satisfied c.args.formula.now c.args.cube.now c.args.literals.now c.answer_of.result is (cc)

pub returns-clause-exact : goal.returns-clause-exact
returns-clause-exact c =
    let is : IsAnswer c.args.formula.now c.args.cube.now c.args.literals.now c.answer_of.result = grind (arith, common_steps) in
    answer_exact c.args.formula.now c.args.cube.now c.args.literals.now c.answer_of.result is
