use Rattle.std.proofs.Common.{[], ◌∷◌, refl, arith}
use Rattle.run_laws_tests.proofs.WorkedLemmas.{negated_is_shown}
use Rattle.test_support.specs.lemmas.WorkedLemmas.{unit_is_shown, unit_fits, empty_is_shown, empty_fits}
use Rattle.run_laws_tests.proofs.worked.streams_leave_one_another_alone.Goals as goal
use Rattle.test_support.specs.Worked.{first, second, third, fourth, unit}

pub returns : goal.returns
returns c = record {
  streams = ((omega arith, omega arith), ((omega arith, omega arith), ((omega arith, omega arith), ((omega arith, omega arith), tt))));
  fits = (
    (
      (omega arith, omega arith),
      record { count = omega arith; each = ((omega arith, omega arith), tt) },
      record { count = omega arith; each = ((omega arith, omega arith), ((omega arith, omega arith), tt)) },
    ),
    (
      unit_fits 5 (omega arith, omega arith),
      (
        ((omega arith, omega arith), record { count = omega arith; each = ((omega arith, omega arith), ((omega arith, omega arith), tt)) }),
        (empty_fits 7 (omega arith, omega arith), tt),
      ),
    ),
  );
  valid = (
    record {
      owns = refl;
      above = omega arith;
      literals = (omega arith, tt);
      room = omega arith;
      clauses = third ∷ fourth ∷ [];
      named = (refl, (refl, tt));
      shown = negated_is_shown;
    },
    (
      record {
        owns = refl;
        above = omega arith;
        literals = (omega arith, tt);
        room = omega arith;
        clauses = first ∷ second ∷ [];
        named = (refl, (refl, tt));
        shown = unit_is_shown;
      },
      (
        record { there = (refl, (refl, tt)); once = (refl, (refl, tt)) },
        (
          record {
            owns = refl;
            above = omega arith;
            literals = tt;
            room = omega arith;
            clauses = unit ∷ third ∷ fourth ∷ [];
            named = (refl, (refl, (refl, tt)));
            shown = empty_is_shown;
          },
          tt,
        ),
      ),
    ),
  );
}
