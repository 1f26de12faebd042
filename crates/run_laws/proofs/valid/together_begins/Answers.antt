use Rattle.run_laws.proofs.TogetherLemmas.{together_begins as lemma}
use Rattle.run_laws.proofs.valid.together_begins.Goals as goal

pub returns : goal.returns
returns c = lemma c.good_line_taken.ensures c.fresh_left.ensures c.end_judged.ensures
    c.no_bytes_have_no_lines.ensures c.a_stream_is_cut_in_one_way.ensures c.bytes_begin_with_one_line.ensures
    c.a_refused_text_holds_no_line.ensures
    c.cited_fetched.ensures
