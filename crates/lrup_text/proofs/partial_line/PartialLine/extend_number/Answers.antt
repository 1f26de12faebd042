use Rattle.std.proofs.Common.{arith}
use Rattle.lrup_text.proofs.Numerals.{power_below}
use Rattle.lrup_text.proofs.partial_line.PartialLine.extend_number.Goals as goal

pub overflow_mul-self : goal.overflow_mul-self
overflow_mul-self c = omega (arith, c.requires.fits, power_below c.args.self.now.digits (omega (arith, c.requires.room)))

pub overflow_add-self : goal.overflow_add-self
overflow_add-self c = omega (arith, c.requires.fits, power_below c.args.self.now.digits (omega (arith, c.requires.room)))
