use Rattle.std.proofs.Common.{[], ◌∷◌, inl, inr, refl}
use Rattle.stream_check_tests.specs.Worked.{five_refused}
use Rattle.stream_check_tests.proofs.worked.deletions_are_judged.Goals as goal

pub returns-clause-own : goal.returns-clause-own
returns-clause-own c = record { rest = five_refused ∷ []; decided = inl (refl, record { rest = []; decided = inr (refl, (refl, refl)) }) }
