use Rattle.lrup_text_tests.proofs.CubeLemmas.{text_of_set}
use Rattle.lrup_text_tests.proofs.tests.cube_texts.a_text_is_of_a_set.Goals as goal

pub returns : goal.returns
returns c = text_of_set
