use Rattle.outcome_laws.proofs.RunLemmas.{same_bytes_same_report as lemma}
use Rattle.outcome_laws.proofs.laws.same_bytes_same_report.Goals as goal

pub returns : goal.returns
returns c = lemma c.cube_is_irrelevant.ensures c.same_bytes_agree.ensures
