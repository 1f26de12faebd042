use Rattle.stream_check.proofs.ReachingLemmas.{fresh_left as lemma}
use Rattle.stream_check.proofs.laws.fresh_left.Goals as goal

pub returns : goal.returns
returns c = lemma c.texts_are_lines.ensures c.no_bytes_have_no_lines.ensures
