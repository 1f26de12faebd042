use Rattle.stream_check.proofs.ReachingLemmas.{good_line_taken as lemma}
use Rattle.stream_check.proofs.laws.good_line_taken.Goals as goal

pub returns : goal.returns
returns c = lemma c.texts_are_lines.ensures c.no_bytes_have_no_lines.ensures
