use Rattle.lrup_text.proofs.Streams.{one_line}
use Rattle.lrup_text.proofs.laws.a_text_spells_one_line.Goals as goal

pub returns : goal.returns
returns c = one_line
