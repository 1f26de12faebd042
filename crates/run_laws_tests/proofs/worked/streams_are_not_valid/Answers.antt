use Rattle.std.proofs.Common.{◌≡◌, length, ap, arith}
use Rattle.std.specs.Fmt.{digits}
use Rattle.run_laws_tests.proofs.worked.streams_are_not_valid.Goals as goal

pub returns-clause-rest : goal.returns-clause-rest
unfolding digits
returns-clause-rest c = λ valid. let same : 7 ≡ 6 = ap length valid.text in omega (arith, same)

pub returns-clause-limits : goal.returns-clause-limits
returns-clause-limits c = λ valid. omega (arith, valid.fits.0.0.0)
