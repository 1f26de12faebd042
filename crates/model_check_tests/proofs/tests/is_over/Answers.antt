use Rattle.std.proofs.Common.{arith}
use Rattle.model_check_tests.proofs.tests.is_over.Goals as goal

pub returns : goal.returns
returns c = λ _. (c.vars-over.ensures c.args.formula.now.vars).1 (omega (arith, c.vars-most.ensures.vars))
