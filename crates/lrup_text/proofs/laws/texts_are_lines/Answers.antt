use Rattle.lrup_text.proofs.Streams.{texts_are_lines}
use Rattle.lrup_text.proofs.laws.texts_are_lines.Goals as goal

pub returns : goal.returns
returns c = texts_are_lines
