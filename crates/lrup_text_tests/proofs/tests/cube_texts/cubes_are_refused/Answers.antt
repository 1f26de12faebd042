use Rattle.lrup_text_tests.proofs.CubeLemmas.{zero_in_front, no_line_feed}
use Rattle.lrup_text_tests.proofs.tests.cube_texts.cubes_are_refused.Goals as goal

pub returns : goal.returns
returns c = record { zero = zero_in_front; line_feed = no_line_feed }
