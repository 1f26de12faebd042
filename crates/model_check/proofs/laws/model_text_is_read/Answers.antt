use Rattle.model_check.proofs.ReadingLemmas.{text_is_read}
use Rattle.model_check.proofs.laws.model_text_is_read.Goals as goal

pub returns : goal.returns
returns c = text_is_read
