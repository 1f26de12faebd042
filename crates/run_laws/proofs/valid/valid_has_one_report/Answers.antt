use Rattle.run_laws.proofs.ValidLemmas.{valid_has_one_report as lemma}
use Rattle.run_laws.proofs.valid.valid_has_one_report.Goals as goal

pub returns : goal.returns
returns c = lemma c.valid_accepted.ensures c.alone_has_one_report.ensures
