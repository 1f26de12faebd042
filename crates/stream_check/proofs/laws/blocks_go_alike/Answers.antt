use Rattle.stream_check.proofs.NextLemmas.{blocks_go_alike as lemma}
use Rattle.stream_check.proofs.laws.blocks_go_alike.Goals as goal

pub returns : goal.returns
returns c = lemma (record {
  line = c.a_text_spells_one_line.ensures;
  begins = c.no_text_begins_another.ensures;
  lines = c.texts_are_lines.ensures;
  fault = c.a_text_has_one_fault.ensures;
})
