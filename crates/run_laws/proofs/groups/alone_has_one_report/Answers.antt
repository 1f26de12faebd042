use Rattle.run_laws.proofs.AloneLemmas.{alone_has_one_report as lemma}
use Rattle.run_laws.proofs.groups.alone_has_one_report.Goals as goal

pub returns : goal.returns
returns c = lemma c.finished_stays.ensures c.alone_decides.ensures
