use Rattle.lrup_model.specs.lemmas.HistoryLemmas.{own_calls_decide}
use Rattle.lrup_model.proofs.laws.own_calls_decide.Goals as goal

pub returns : goal.returns
returns c = own_calls_decide
