use Rattle.lrup_text.specs.lemmas.WritingLemmas.{writes_from_empty}
use Rattle.run_outcome.proofs.report_text.write_finished.Goals as goal

pub returns-clause-text : goal.returns-clause-text
returns-clause-text g c = writes_from_empty c.flush.result _ c.new-buffer.ensures c.in_ok-put_stream.ensures.puts c.flush.ensures.text
