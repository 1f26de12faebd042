use Rattle.run_laws.proofs.EmptiedLemmas.{others_empty as lemma}
use Rattle.run_laws.proofs.groups.others_empty.Goals as goal

pub returns : goal.returns
returns c = lemma c.fresh_left.ensures c.end_judged.ensures
