use Rattle.judge.proofs.OutcomeLemmas.{line_judged as lemma}
use Rattle.judge.proofs.laws.line_judged.Goals as goal

pub returns : goal.returns
returns c = lemma
