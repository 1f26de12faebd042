use Rattle.std.proofs.Common.{[], ◌∷◌, refl, arith}
use Rattle.run_laws_tests.proofs.WorkedLemmas.{unit_is_shown_swapped, one_is_the_formulas}
use Rattle.test_support.specs.lemmas.WorkedLemmas.{same_first, unit_is_shown}
use Rattle.run_laws_tests.proofs.worked.lines_are_valid.Goals as goal
use Rattle.test_support.specs.Worked.{first, second}

pub returns-clause-swapped : goal.returns-clause-swapped
returns-clause-swapped c = record {
  owns = refl;
  above = omega arith;
  literals = (omega arith, tt);
  room = omega arith;
  clauses = second ∷ first ∷ [];
  named = (refl, (refl, tt));
  shown = unit_is_shown_swapped;
}

pub returns-clause-repeated : goal.returns-clause-repeated
returns-clause-repeated c = record {
  owns = refl;
  above = omega arith;
  literals = (omega arith, (omega arith, tt));
  room = omega arith;
  clauses = first ∷ second ∷ [];
  named = (refl, (refl, tt));
  shown = unit_is_shown;
}

pub returns-clause-gap : goal.returns-clause-gap
returns-clause-gap c = record {
  owns = refl;
  above = omega arith;
  literals = (omega arith, tt);
  room = omega arith;
  clauses = first ∷ second ∷ [];
  named = (refl, (refl, tt));
  shown = unit_is_shown;
}

pub returns-clause-imported : goal.returns-clause-imported
returns-clause-imported c = record {
  identity = (omega arith, omega arith);
  other = one_is_the_formulas;
  literals = (omega arith, (omega arith, (omega arith, tt)));
  clause = first;
  named = (refl, tt);
  same = same_first;
}
