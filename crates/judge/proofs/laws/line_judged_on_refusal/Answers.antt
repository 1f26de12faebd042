use Rattle.judge.proofs.OutcomeLemmas.{line_judged_on_refusal as lemma}
use Rattle.judge.proofs.laws.line_judged_on_refusal.Goals as goal

pub returns : goal.returns
returns c = lemma
