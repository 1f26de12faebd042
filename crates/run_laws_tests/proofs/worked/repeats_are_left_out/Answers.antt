use Rattle.std.proofs.Common.{[], ◌∷◌, refl, arith}
use Rattle.run_laws_tests.proofs.worked.repeats_are_left_out.Goals as goal
use Rattle.test_support.specs.Worked.{unit}
use Rattle.test_support.specs.lemmas.WorkedLemmas.{unit_is_proper}

pub returns-clause-room : goal.returns-clause-room
returns-clause-room c = record {
  owns = refl;
  above = omega arith;
  literals = (omega arith, tt);
  room = omega arith;
  clauses = unit ∷ [];
  named = (refl, tt);
  shown = (unit_is_proper, λ l h. h);
}
