use Rattle.lrup_text.proofs.Streams.{no_text_begins}
use Rattle.lrup_text.proofs.laws.no_text_begins_another.Goals as goal

pub returns : goal.returns
returns c = no_text_begins
