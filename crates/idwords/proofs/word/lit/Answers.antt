use Rattle.std.proofs.Common.{◌∙◌}
use Rattle.idwords.proofs.WordLemmas.{half_read}
use Rattle.idwords.proofs.word.lit.Goals as goal

pub from_code-requires : goal.from_code-requires
from_code-requires c = rw (half_read c.args.half c.args.word c.requires.half c.ranges.word.fits) c.requires.code

pub returns : goal.returns
returns c = c.from_code.ensures ∙ half_read c.args.half c.args.word c.requires.half c.ranges.word.fits
