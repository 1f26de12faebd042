use Rattle.std.proofs.Common.{pos, refl, inl, inr, arith}
use Rattle.run_laws_tests.proofs.worked.nothing_else_is_wrong.Goals as goal

pub returns-clause-again : goal.returns-clause-again
returns-clause-again c = λ valid. omega (arith, valid.above)

pub returns-clause-variable : goal.returns-clause-variable
returns-clause-variable c = λ valid. omega (arith, valid.literals.0)

pub returns-clause-tautology : goal.returns-clause-tautology
returns-clause-tautology c = λ valid. valid.shown.0 (pos 1, inl refl, inr (inl refl))

pub returns-clause-room : goal.returns-clause-room
returns-clause-room c = λ valid. omega (arith, valid.room)
