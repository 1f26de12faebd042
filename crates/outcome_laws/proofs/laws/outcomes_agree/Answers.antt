use Rattle.outcome_laws.proofs.OutcomeLemmas.{outcomes_agree as lemma}
use Rattle.outcome_laws.proofs.laws.outcomes_agree.Goals as goal

pub returns : goal.returns
returns g c = lemma c.one_formula.ensures c.same_bytes_same_report.ensures _ _
