use Rattle.std.proofs.Common.{Ok, ap}
use Rattle.lrup_text.proofs.TextLaws.{empty_pending}
use Rattle.lrup_text.proofs.reader.LineReader.new.Goals as goal

pub returns : goal.returns
returns c = (ap Ok c.in_ok-line.ensures.1, empty_pending)
