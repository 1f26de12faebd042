use Rattle.lrup_text.proofs.Readers.{steps_from}
use Rattle.lrup_text.proofs.partial_line.PartialLine.read.Goals as goal

pub returns-in-None : goal.returns-in-None
returns-in-None c =
    steps_from c.args.self.now c.read_at_once.new.self c.args.piece.now c.read_bytes.result.used c.read_bytes.result.step
    c.read_bytes.new.self c.in-None.ensures.same c.read_bytes.ensures
