-- What is written about a fault.
use Rattle.std.proofs.Common.{◌++◌, ◌≡◌, ◌≢◌, [], refl, ℕ}
use Rattle.std.proofs.lemmas.Bool.{eq-eqb, ne_eqb}
use Rattle.std.specs.Fmt.{decimal}
use Rattle.std.specs.Prelude.{codes}
use Rattle.run_files.specs.Faults.{of_round}

-- the prefix that names a round, from round 2 on
pub of_more : (number : ℕ) → number ≢ 1 → of_round number ≡ codes "round " ++ decimal number ++ codes ": "
of_more number other = rw (ne_eqb number 1 other) refl

pub of_one : (number : ℕ) → number ≡ 1 → of_round number ≡ []
of_one number is = rw (eq-eqb number 1 is) refl
