use Rattle.solve.proofs.EndLemmas.{eight_of, ends_with, model_of, under_of, unsatisfiable_of, zero_of}
use Rattle.solve.proofs.program.solve.Goals as goal

pub returns-clause-ends : goal.returns-clause-ends
returns-clause-ends g c =
    ends_with g.O.Sink c.args.formula.now c.args.cube.now c.args.choices.statuses c.args.out.now c.hear_and_check-verdict.new.out
    c.conclude.new.out c.answer_of-answer.result c.conclude.result c.hear_and_check-verdict.ensures.printed c.answer_of-answer.ensures
    c.conclude.ensures.took c.conclude.ensures.stays c.conclude.ensures.status

pub returns-clause-unsatisfiable : goal.returns-clause-unsatisfiable
returns-clause-unsatisfiable g c = unsatisfiable_of _ _ _ _ _ (returns-clause-ends g c)

pub returns-clause-under : goal.returns-clause-under
returns-clause-under g c = under_of _ _ _ _ _ (returns-clause-ends g c)

pub returns-clause-eight : goal.returns-clause-eight
returns-clause-eight g c = eight_of _ _ _ _ _ (returns-clause-ends g c)

pub returns-clause-satisfiable : goal.returns-clause-satisfiable
returns-clause-satisfiable g c = model_of _ _ _ _ _ (returns-clause-ends g c)

pub returns-clause-zero : goal.returns-clause-zero
returns-clause-zero g c = zero_of _ _ _ _ _ (returns-clause-ends g c)
