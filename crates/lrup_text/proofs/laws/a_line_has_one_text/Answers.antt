use Rattle.lrup_text.proofs.Streams.{one_text}
use Rattle.lrup_text.proofs.laws.a_line_has_one_text.Goals as goal

pub returns : goal.returns
returns c = one_text
