use Rattle.outcome_laws.proofs.WordLemmas.{one_command_line as lemma}
use Rattle.outcome_laws.proofs.laws.one_command_line.Goals as goal

pub returns : goal.returns
returns c = lemma
