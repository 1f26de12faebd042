use Rattle.run_laws.proofs.RunLemmas.{same_reading_agrees as lemma}
use Rattle.run_laws.proofs.groups.same_reading_agrees.Goals as goal

pub returns : goal.returns
returns c = lemma c.beginnings_within.ensures c.closed_is_group.ensures c.alone_has_one_report.ensures
