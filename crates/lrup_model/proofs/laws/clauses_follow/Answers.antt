use Rattle.lrup_model.specs.lemmas.EntailmentLemmas.{clauses_follow}
use Rattle.lrup_model.proofs.laws.clauses_follow.Goals as goal

pub returns : goal.returns
returns c = clauses_follow
