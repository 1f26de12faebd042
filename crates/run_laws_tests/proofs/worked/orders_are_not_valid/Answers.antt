use Rattle.std.proofs.Common.{◌≡◌, Some, None, arith}
use Rattle.run_laws_tests.proofs.worked.orders_are_not_valid.Goals as goal

pub returns-clause-retired : goal.returns-clause-retired
returns-clause-retired c = λ order.
    let last = order.valid.1.1.0 in
    let no : None ≡ Some last.clause = last.named.0 in cc

pub returns-clause-limits : goal.returns-clause-limits
returns-clause-limits c = λ order. omega (arith, order.fits.0.0.0)

pub returns-clause-stream : goal.returns-clause-stream
returns-clause-stream c = λ order. omega (arith, order.streams.0.1)
