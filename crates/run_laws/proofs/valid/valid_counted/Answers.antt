use Rattle.run_laws.proofs.ValidLemmas.{valid_counted as lemma}
use Rattle.run_laws.proofs.valid.valid_counted.Goals as goal

pub returns : goal.returns
returns c = lemma c.good_line_taken.ensures c.fresh_left.ensures c.end_judged.ensures
    c.no_bytes_have_no_lines.ensures c.a_stream_is_cut_in_one_way.ensures c.counts_within.ensures
