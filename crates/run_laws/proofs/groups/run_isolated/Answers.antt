use Rattle.run_laws.proofs.RunLemmas.{run_isolated as lemma}
use Rattle.run_laws.proofs.groups.run_isolated.Goals as goal

pub returns : goal.returns
returns c = lemma c.closed_is_group.ensures c.alone_has_one_report.ensures
