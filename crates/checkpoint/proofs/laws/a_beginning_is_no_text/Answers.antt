use Rattle.checkpoint.proofs.Beginnings.{a_beginning_is_no_text}
use Rattle.checkpoint.proofs.laws.a_beginning_is_no_text.Goals as goal

pub returns : goal.returns
returns c = a_beginning_is_no_text
