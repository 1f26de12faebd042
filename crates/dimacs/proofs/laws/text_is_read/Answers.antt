use Rattle.dimacs.proofs.TextLemmas.{body_of_text, text_of_body}
use Rattle.dimacs.proofs.laws.text_is_read.Goals as goal

pub returns : goal.returns
returns c bytes f = (body_of_text bytes f, text_of_body bytes f)
