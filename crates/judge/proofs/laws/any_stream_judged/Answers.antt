use Rattle.judge.proofs.StreamLemmas.{any_stream_judged as lemma}
use Rattle.judge.proofs.laws.any_stream_judged.Goals as goal

pub returns : goal.returns
returns c = lemma (record {
  begins = c.a_beginning_is_cut_alike.ensures;
  empty = c.no_bytes_may_become_a_line.ensures;
  refused = c.a_refused_text_holds_no_line.ensures;
  fault = c.a_text_has_one_fault.ensures;
})
