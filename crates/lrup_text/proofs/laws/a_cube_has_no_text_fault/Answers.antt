use Rattle.lrup_text.proofs.CubeLaws.{text_has_no_fault}
use Rattle.lrup_text.proofs.laws.a_cube_has_no_text_fault.Goals as goal

pub returns : goal.returns
returns c = text_has_no_fault
