use Rattle.outcome_laws.proofs.SerialLemmas.{serial_outcomes_agree as lemma}
use Rattle.outcome_laws.proofs.laws.serial_outcomes_agree.Goals as goal

pub returns : goal.returns
returns g c = lemma c.one_formula.ensures c.bytes_decide.ensures _ _
