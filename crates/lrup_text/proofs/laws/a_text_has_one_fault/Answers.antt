use Rattle.lrup_text.proofs.Streams.{one_fault}
use Rattle.lrup_text.proofs.laws.a_text_has_one_fault.Goals as goal

pub returns : goal.returns
returns c = one_fault
