use Rattle.lrup_text.proofs.CubeTexts.{cube_text_is_read}
use Rattle.lrup_text.proofs.laws.a_cube_text_is_read.Goals as goal

pub returns : goal.returns
returns c = cube_text_is_read
