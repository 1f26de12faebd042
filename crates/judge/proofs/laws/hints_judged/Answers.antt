use Rattle.judge.proofs.HintLemmas.{hints_judged as lemma}
use Rattle.judge.proofs.laws.hints_judged.Goals as goal

pub returns : goal.returns
returns c = lemma
