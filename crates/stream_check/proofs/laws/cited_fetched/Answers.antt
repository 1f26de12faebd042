use Rattle.stream_check.proofs.CutLemmas.{cited_fetched as lemma}
use Rattle.stream_check.proofs.laws.cited_fetched.Goals as goal

pub returns : goal.returns
returns c = lemma (record {
  line = c.a_text_spells_one_line.ensures;
  begins = c.no_text_begins_another.ensures;
  lines = c.texts_are_lines.ensures;
  fault = c.a_text_has_one_fault.ensures;
})
