use Rattle.std.proofs.Common.{pos, inl, inr, refl, arith}
use Rattle.stream_check_tests.proofs.worked.tests_are_judged.Goals as goal

pub returns-clause-tautology : goal.returns-clause-tautology
returns-clause-tautology c = (
  refl,
  inr ((refl, omega arith), inr ((omega arith, (omega arith, tt)), inl ((λ none. none (pos 1, inl refl, inr (inl refl))), refl, refl))),
)
