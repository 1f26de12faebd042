use Rattle.lrup_text.proofs.Streams.{texts_apart}
use Rattle.lrup_text.proofs.laws.bytes_begin_with_one_line.Goals as goal

pub returns : goal.returns
returns c = texts_apart
