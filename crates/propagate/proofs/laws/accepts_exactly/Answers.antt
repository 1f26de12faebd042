use Rattle.propagate.specs.lemmas.HintLemmas.{accepts_exactly as lemma}
use Rattle.propagate.proofs.laws.accepts_exactly.Goals as goal

pub returns : goal.returns
returns c = lemma
