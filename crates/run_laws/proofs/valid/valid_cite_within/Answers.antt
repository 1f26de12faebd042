use Rattle.run_laws.proofs.ValidCites.{valid_cite_within as lemma}
use Rattle.run_laws.proofs.valid.valid_cite_within.Goals as goal

pub returns : goal.returns
returns c = lemma c.no_bytes_have_no_lines.ensures
