use Rattle.std.proofs.Common.{arith, refl}
use Rattle.lrup_text.proofs.Readers.{start_reads}
use Rattle.lrup_text.proofs.partial_line.PartialLine.new.Goals as goal

pub returns : goal.returns
returns c =
    start_reads _ refl (record { literals = c.in_ok-literals.ensures; identities = c.in_ok-identities.ensures })
    (record { lead = (omega arith, omega arith); few_literals = omega arith; few_identities = omega arith; literals = tt; identities = tt })
    (record { low = omega arith; high = omega arith; few = omega arith })
