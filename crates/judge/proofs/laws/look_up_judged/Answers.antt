use Rattle.judge.proofs.LookUpLemmas.{look_up_judged as lemma}
use Rattle.judge.proofs.laws.look_up_judged.Goals as goal

pub returns : goal.returns
returns c = lemma
