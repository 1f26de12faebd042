use Rattle.checkpoint.proofs.ReadBack.{printed_is_read}
use Rattle.checkpoint.proofs.laws.printed_is_read.Goals as goal

pub returns : goal.returns
returns c = printed_is_read
